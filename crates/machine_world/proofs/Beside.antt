-- What an event leaves of all other processes, spaces and tables of descriptors.
use Rattle.std.proofs.Common.{◌≡◌, ◌≢◌, ℕ, Bool, true, false, List, ◌∷◌, map, Option, Some, None, refl, sym, ap, subst, ◌∙◌}
use Rattle.std.specs.Prelude.{if◌then◌else◌, option_map}
use Rattle.rv32im_step.specs.Meaning.{meaning}
use Rattle.mmap_rules.specs.Space.{Space, writable_in}
use Rattle.flat_loader.specs.Begin.{begin_regs}
use Rattle.vfork_exec.specs.declared.family.State.TheVariants.{Lent}
use Rattle.vfork_exec.specs.Keyed.{find, change, without}
use Rattle.vfork_exec.proofs.Keyed.{eqb_other, find_head, find_map, find_beside_change, find_beside_without}
use Rattle.machine_world.specs.World.{Process, LiveSpace, World, pid_of, id_of}
use Rattle.fd_tables.specs.Files.{table_at}
use Rattle.machine_world.specs.Families.{borrows, spaces_left, let_go, left_by, all_left_by}
use Rattle.machine_world.specs.Asks.{Ask, storage_of}
use Rattle.machine_world.specs.Rows.{row}
use Rattle.machine_world.specs.Event.{Trace, Outcome, went, awake, strays, full, idle, ended, replied, ask_of, with_child, with_exec, effect, in_space, by_process, at_process, event}
use Rattle.machine_world.specs.Others.{KeepsOwn, IsKept, LeavesOthers, EventsLeaveOthers}
use Rattle.machine_world.proofs.States.{find_has}
use Rattle.machine_world.proofs.Awake.{woke, find_roused}
use Rattle.machine_world.proofs.EachChange.{Answers}
use Rattle.machine_world.proofs.ByRows.{by_rows}
use Rattle.machine_world.proofs.ByEvents.{Went, Answered, Happened, loading_of, by_effect}
use Rattle.machine_world.proofs.OtherTables.{OthersAsIn, other_tables, other-without_table, other-exec_closed, other-with_copy}

-- ---- a process that keeps its own

same_own : (o : Option Process) → IsKept o o
same_own None = tt
same_own (Some p) = record { regs = refl; space = refl; table = refl }

mapped_own : (f : Process → Process) → ((p : Process) → KeepsOwn p (f p)) → (o : Option Process) → IsKept o (option_map f o)
mapped_own f each None = tt
mapped_own f each (Some p) = each p

own_on : (a b c : Option Process) → IsKept a b → IsKept b c → IsKept a c
own_on None None None first second = tt
own_on None None (Some c) first second = second
own_on None (Some b) c first second = absurd first
own_on (Some a) None c first second = absurd first
own_on (Some a) (Some b) None first second = absurd second
own_on (Some a) (Some b) (Some c) first second =
    record { regs = second.regs ∙ first.regs; space = second.space ∙ first.space; table = second.table ∙ first.table }

-- the same process, or what is made of it
own_as : (old new : Option Process) → new ≡ old → IsKept old new
own_as old new is = subst (IsKept old) (sym is) (same_own old)

own_by : (f : Process → Process) → ((p : Process) → KeepsOwn p (f p)) → (old new : Option Process) → new ≡ option_map f old → IsKept old new
own_by f each old new is = subst (IsKept old) (sym is) (mapped_own f each old)

-- ---- the changes of all processes and spaces

module _ (p : Process) (procs : List Process) (spaces : List LiveSpace) where
  find_left : (other : ℕ) → other ≢ p.pid → find pid_of other (all_left_by p procs) ≡ option_map (left_by p) (find pid_of other procs)
  unfolding all_left_by
  find_left other ne =
      find_map pid_of pid_of other (left_by p) (λ q. refl) (without pid_of p.pid procs)
      ∙ ap (option_map (left_by p)) (find_beside_without pid_of p.pid other ne procs)

  find_let_go : (f : Process → Process) → ((q : Process) → pid_of (f q) ≡ pid_of q) → (other : ℕ) → other ≢ p.pid
      → find pid_of other (change pid_of p.pid f (map (let_go p.pid) procs)) ≡ option_map (let_go p.pid) (find pid_of other procs)
  find_let_go f same other ne =
      find_beside_change pid_of p.pid other ne f same (map (let_go p.pid) procs) ∙ find_map pid_of pid_of other (let_go p.pid) (λ q. refl) procs

  left_if : (b : Bool) (other : ℕ) → other ≢ p.space → find id_of other (if b then spaces else without id_of p.space spaces) ≡ find id_of other spaces
  left_if true other ne = refl
  left_if false other ne = find_beside_without id_of p.space other ne spaces

  find_space_left : (other : ℕ) → other ≢ p.space → find id_of other (spaces_left p procs spaces) ≡ find id_of other spaces
  unfolding spaces_left
  find_space_left = left_if (borrows p procs)

-- one more, with another number
module _ {A : Type 0} (key : A → ℕ) where
  find_behind : (x : A) (xs : List A) (other : ℕ) → other ≢ key x → find key other (x ∷ xs) ≡ find key other xs
  find_behind x xs other ne = find_head key other x xs false (eqb_other (key x) other (λ e. ne (sym e)))

-- ---- the changes of an event

-- what an event of a process leaves, in its space
abbrev Beside : World → Process → Outcome → Type 0
Beside w p = Went (λ now t. (t.space ≡ p.space) × LeavesOthers p.pid p.space p.table w now)

module _ (w : World) (p : Process) where
  beside_departed : (now : World) → now.procs ≡ all_left_by p w.procs → now.spaces ≡ spaces_left p w.procs w.spaces
      → ((other : ℕ) → other ≢ p.table → table_at now.rest.files other ≡ table_at w.rest.files other) → LeavesOthers p.pid p.space p.table w now
  beside_departed now procs spaces tables = record {
    procs = λ other ne new.
        own_by (left_by p) (λ q. record { regs = refl; space = refl; table = refl }) (find pid_of other w.procs) (find pid_of other now.procs)
        (ap (find pid_of other) procs ∙ find_left p w.procs w.spaces other ne);
    spaces = λ other ne new. ap (find id_of other) spaces ∙ find_space_left p w.procs w.spaces other ne;
    tables = λ other ne there. tables other ne;
  }

  -- where the process itself changes
  beside_changed : (f : Process → Process) → ((q : Process) → pid_of (f q) ≡ pid_of q) → (other : ℕ) → other ≢ p.pid
      → IsKept (find pid_of other w.procs) (find pid_of other (change pid_of p.pid f w.procs))
  beside_changed f same other ne = own_as (find pid_of other w.procs) (find pid_of other (change pid_of p.pid f w.procs)) (find_beside_change pid_of p.pid other ne f same w.procs)

  beside_space : (f : LiveSpace → LiveSpace) → ((s : LiveSpace) → id_of (f s) ≡ id_of s) → (other : ℕ) → other ≢ p.space
      → find id_of other (change id_of p.space f w.spaces) ≡ find id_of other w.spaces
  beside_space f same other ne = find_beside_change id_of p.space other ne f same w.spaces

  module _ (s : Space) (bytes : List ℕ) where
    abbrev a : Ask
    a = ask_of w p s bytes

    beside_child : (other : ℕ) → other ≢ p.pid → other ≢ w.next_pid → IsKept (find pid_of other w.procs) (find pid_of other (with_child w a).procs)
    beside_child other ne new =
        own_as (find pid_of other w.procs) (find pid_of other (with_child w a).procs)
        (find_behind pid_of _ (change pid_of p.pid (λ q. record q { regs = replied p.regs w.next_pid; state = Lent w.next_pid }) w.procs) other new
        ∙ find_beside_change pid_of p.pid other ne (λ q. record q { regs = replied p.regs w.next_pid; state = Lent w.next_pid }) (λ q. refl) w.procs)

    beside_call : Answered (λ now t. (t.space ≡ p.space) × LeavesOthers p.pid p.space p.table w now) (OthersAsIn p.table w.rest.files) w a
    unfolding ended
    beside_call = record {
      reply = λ ended r m tables room. (
        refl,
        record {
          procs = λ other ne new. beside_changed (λ q. record q { regs = replied p.regs r.value }) (λ q. refl) other ne;
          spaces = λ other ne new. beside_space (λ l. record l { space = record r.space { bytes = m } }) (λ l. refl) other ne;
          tables = λ other ne there. tables other ne;
        },
      );
      wait = λ state. (
        refl,
        record {
          procs = λ other ne new. beside_changed (λ q. record q { state = state }) (λ q. refl) other ne;
          spaces = λ other ne new. refl;
          tables = λ other ne there. refl;
        },
      );
      exit = λ room. (refl, beside_departed _ refl refl (λ other ne. other-without_table p.table other ne (storage_of w.rest)));
      fork = λ few room. (
        refl,
        record {
          procs = beside_child;
          spaces = λ other ne new. refl;
          tables = λ other ne there. other-with_copy w.rest.files p.table other there;
        },
      );
      load = λ f strings page is fits room. (
        refl,
        record {
          procs = λ other ne new.
              own_by (let_go p.pid) (λ q. record { regs = refl; space = refl; table = refl }) (find pid_of other w.procs)
              (find pid_of other (with_exec w p (loading_of f strings page)).procs)
              (find_let_go p w.procs w.spaces (λ q. record q { regs = begin_regs (loading_of f strings page); space = w.loads }) (λ q. refl) other ne);
          spaces = λ other ne new. find_behind id_of _ (spaces_left p w.procs w.spaces) other new ∙ find_space_left p w.procs w.spaces other ne;
          tables = λ other ne there. other-exec_closed p.table other ne (storage_of w.rest);
        },
      );
    }

    beside_rows : Answers (OthersAsIn p.table w.rest.files) (row a)
    beside_rows = by_rows (OthersAsIn p.table w.rest.files) a (other_tables a) (λ other ne. refl)

  -- and where those go on who wait on pipes
  beside_awake : (now : World) (t : Trace) → (t.space ≡ p.space) × LeavesOthers p.pid p.space p.table w now → (t.space ≡ p.space) × LeavesOthers p.pid p.space p.table w (awake now)
  beside_awake now t h = (
    h.0,
    record {
      procs = λ other ne new.
          own_on (find pid_of other w.procs) (find pid_of other now.procs) (find pid_of other (awake now).procs) (h.1.procs other ne new)
          (own_by (woke now.rest.files.changed) (λ q. record { regs = refl; space = refl; table = refl }) (find pid_of other now.procs) (find pid_of other (awake now).procs)
          (find_roused now.rest.files.changed now.procs other));
      spaces = h.1.spaces;
      tables = h.1.tables;
    },
  )

  beside_act : (s : Space) → Happened (λ now t. (t.space ≡ p.space) × LeavesOthers p.pid p.space p.table w now) (OthersAsIn p.table w.rest.files) w p s
  unfolding ended
  beside_act s = record {
    step = λ regs bytes. (
      refl,
      record {
        procs = λ other ne new. beside_changed (λ q. record q { regs = regs }) (λ q. refl) other ne;
        spaces = λ other ne new. beside_space (λ l. record l { space = record s { bytes = bytes } }) (λ l. refl) other ne;
        tables = λ other ne there. refl;
      },
    );
    trap = λ signal. (refl, beside_departed _ refl refl (λ other ne. other-without_table p.table other ne (storage_of w.rest)));
    calls = beside_call s;
  }

  beside_in : (found : Option LiveSpace) → Beside w p (in_space (λ q s. effect w q s (meaning q.regs s.bytes (writable_in s.maps))) p found)
  beside_in None = tt
  beside_in (Some s) =
      by_effect (λ now t. (t.space ≡ p.space) × LeavesOthers p.pid p.space p.table w now) (OthersAsIn p.table w.rest.files) beside_awake w (λ other ne. refl)
      p s.space (beside_act s.space) (beside_rows s.space) (meaning p.regs s.space.bytes (writable_in s.space.maps))

-- ---- an outcome of the process with a number, if it is there

abbrev OfProcess : World → ℕ → Option Process → Outcome → Type 0
OfProcess w pid found (went now t) = (p : Process) × (found ≡ Some p) × (t.space ≡ p.space) × LeavesOthers pid p.space p.table w now
OfProcess w pid found (strays access) = Unit {0}
OfProcess w pid found full = Unit {0}
OfProcess w pid found idle = Unit {0}

by_pid : (w : World) (pid : ℕ) (p : Process) → p.pid ≡ pid → (o : Outcome) → Beside w p o → OfProcess w pid (Some p) o
by_pid w pid p key (went now t) beside = (p, refl, beside.0, subst (λ n. LeavesOthers n p.space p.table w now) key beside.1)
by_pid w pid p key (strays access) beside = tt
by_pid w pid p key full beside = tt
by_pid w pid p key idle beside = tt

beside_by : (w : World) (pid : ℕ) (found : Option Process) → ((p : Process) → found ≡ Some p → p.pid ≡ pid)
    → OfProcess w pid found (by_process w.spaces (λ q s. effect w q s (meaning q.regs s.bytes (writable_in s.maps))) found)
beside_by w pid None key = tt
beside_by w pid (Some p) key =
    by_pid w pid p (key p refl) (in_space (λ q s. effect w q s (meaning q.regs s.bytes (writable_in s.maps))) p (find id_of p.space w.spaces))
    (beside_in w p (find id_of p.space w.spaces))

pub events_leave_others : EventsLeaveOthers
unfolding event at_process
events_leave_others w pid now t is =
    subst (OfProcess w pid (find pid_of pid w.procs)) is (beside_by w pid (find pid_of pid w.procs) (λ p found. find_has pid_of pid w.procs p found))
