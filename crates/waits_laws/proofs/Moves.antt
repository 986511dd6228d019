-- What each kind of event leaves of the processes that wait, before those go on that wait on pipes which it changed.
use Rattle.std.proofs.Common.{◌≡◌, ◌≢◌, ℕ, ◌<◌, Bool, true, false, cond, List, [], ◌∷◌, Option, Some, None, ◌⊎◌, inl, inr, refl, sym, ap, subst, ◌∙◌, arith}
use Rattle.std.specs.Prelude.{◌==◌, ◌&&◌, is_some, option_map, filter, not}
use Rattle.std.proofs.lemmas.Bool.{cases_eq}
use Rattle.call_log.specs.declared.how.How.{How}
use Rattle.rv32im_step.specs.declared.regs.Regs.{Regs}
use Rattle.fd_tables.specs.Files.{Table, OpenFiles, table_at, free_number}
use Rattle.fd_tables.specs.Changes.{with_copy, exec_closed, without_table}
use Rattle.fd_tables.proofs.TablesThere.{has_table, has-exec_closed, copy_there, copy_keeps_tables}
use Rattle.flat_loader.specs.Begin.{Loading}
use Rattle.vfork_exec.specs.declared.family.Who.{Who}
use Rattle.vfork_exec.specs.declared.family.State.{State}
use Rattle.vfork_exec.specs.declared.family.State.TheVariants.{Ready, Waiting, OnPipe, Lent}
use Rattle.vfork_exec.specs.declared.family.Ended.{Ended}
use Rattle.vfork_exec.specs.Keyed.{find, change, Falls}
use Rattle.vfork_exec.specs.Families.{is_child, is_meant, parent_behind, resumed, state_behind, ended_behind, first_ended}
use Rattle.vfork_exec.proofs.Keyed.{eqb_is, eqb_other, find_key, find_below, found_any, any_found, find_changed, find_beside_change}
use Rattle.vfork_exec.proofs.Families.{none_filtered, none_appended, none_last}
use Rattle.machine_world.specs.World.{Process, World, pid_of}
use Rattle.machine_world.specs.Families.{has_child, let_go, left_by, all_left_by}
use Rattle.machine_world.specs.Asks.{Ask, storage_of}
use Rattle.machine_world.specs.Event.{child_of, with_child, with_exec}
use Rattle.machine_world.proofs.Chains.{find_left, find_left_own, find_forked, find_forked_child, find_forked_own, find_exec, find_exec_own}
use Rattle.waits_laws.specs.Waits.{IfWaits}
use Rattle.machine_world.specs.Order.{AreCounted}
use Rattle.waits_laws.proofs.Shown.{Shows}
use Rattle.waits_laws.proofs.ShownBehind.{shows-with_copy, shows-exec_closed, shows-without_table}

-- ---- what is to be shown

-- where a process waits now it waited for the same before; if it is for children, none of them has ended, and one lives still
abbrev pub StillWaits : World → List Process → List Ended → Process → State → Type 0
StillWaits w procs ended q Ready = Unit {0}
StillWaits w procs ended q (Waiting who) =
    (q.state ≡ Waiting who) × (first_ended q.pid who w.ended ≡ None → first_ended q.pid who ended ≡ None) × (has_child q.pid who w.procs ≡ true → has_child q.pid who procs ≡ true)
StillWaits w procs ended q (OnPipe id) = q.state ≡ OnPipe id
StillWaits w procs ended q (Lent child) = Unit {0}

pub record Moves (w : World) (p : Process) (procs : List Process) (ended : List Ended) (files : OpenFiles) : Type 0 where
  pub others : (other : ℕ) (q now : Process) → other ≢ p.pid → find pid_of other w.procs ≡ Some q → find pid_of other procs ≡ Some now → StillWaits w procs ended q now.state
  -- the process of the event doesn't wait, and keeps its table; nor does a new one, and its table is new
  pub own : (now : Process) → find pid_of p.pid procs ≡ Some now → IfWaits now.state ⊥ × (now.table ≡ p.table) × (has_table files p.table ≡ true)
  pub new : (now : Process) → find pid_of w.next_pid procs ≡ Some now → IfWaits now.state ⊥ × (now.table ≡ free_number w.rest.files.tables) × (has_table files now.table ≡ true)
  pub shows : Shows p.table w.rest.files files

-- ---- children

children_stay : (own : ℕ) (who : Who) (b : ℕ) (procs now : List Process) → Falls pid_of b procs
    → ((x : Process) → find pid_of x.pid procs ≡ Some x → is_child own who x.pid x.parent ≡ true → (y : Process) × (find pid_of x.pid now ≡ Some y) × (is_child own who y.pid y.parent ≡ true))
    → has_child own who procs ≡ true → has_child own who now ≡ true
unfolding has_child
children_stay own who b procs now falls each has =
    let found = any_found pid_of (λ (x : Process). is_child own who x.pid x.parent) b procs falls has in
    let later = each found.0 found.1 found.2 in
    found_any pid_of found.0.pid (λ (x : Process). is_child own who x.pid x.parent) now later.0 later.1 later.2

-- ---- a state that stays

still_same : (w : World) (procs : List Process) (ended : List Ended) (q : Process)
    → ((who : Who) → first_ended q.pid who w.ended ≡ None → first_ended q.pid who ended ≡ None)
    → ((who : Who) → has_child q.pid who w.procs ≡ true → has_child q.pid who procs ≡ true)
    → (x : State) → q.state ≡ x → StillWaits w procs ended q x
still_same w procs ended q none child Ready is = tt
still_same w procs ended q none child (Waiting who) is = (is, none who, child who)
still_same w procs ended q none child (OnPipe id) is = is
still_same w procs ended q none child (Lent to) is = tt

module _ (w : World) (p : Process) (falls : Falls pid_of w.next_pid w.procs) (lives : find pid_of p.pid w.procs ≡ Some p) (ready : p.state ≡ Ready)
    (has : has_table w.rest.files p.table ≡ true) (counts : AreCounted w.rest.files) where
  low : p.pid < w.next_pid
  low = find_below pid_of p.pid w.next_pid w.procs p falls lives

  low_other : (other : ℕ) (q : Process) → find pid_of other w.procs ≡ Some q → other < w.next_pid
  low_other other q is = find_below pid_of other w.next_pid w.procs q falls is

  not_there : (q : Process) → find pid_of w.next_pid w.procs ≡ Some q → ⊥
  not_there q is = let high : w.next_pid < w.next_pid = low_other w.next_pid q is in omega arith

  no_wait : (x : State) → x ≡ Ready → IfWaits x ⊥
  no_wait x is = subst (λ (x : State). IfWaits x ⊥) (sym is) tt

  -- ---- a process with other registers

  module _ (regs : Regs) where
    abbrev to : Process → Process
    to q = record q { regs = regs }

    abbrev changed : List Process
    changed = change pid_of p.pid to w.procs

    child_changed : (own : ℕ) (who : Who) → has_child own who w.procs ≡ true → has_child own who changed ≡ true
    child_changed own who = children_stay own who w.next_pid w.procs changed falls (λ x found is. by x found is (cases_eq x.pid p.pid))
      where
        by : (x : Process) → find pid_of x.pid w.procs ≡ Some x → is_child own who x.pid x.parent ≡ true → (x.pid ≡ p.pid) ⊎ (x.pid ≡ p.pid → ⊥)
            → (y : Process) × (find pid_of x.pid changed ≡ Some y) × (is_child own who y.pid y.parent ≡ true)
        by x found is (inl e) = (to x, subst (λ (n : ℕ). find pid_of x.pid (change pid_of n to w.procs) ≡ Some (to x)) e (find_changed pid_of x.pid to (λ y. refl) w.procs ∙ ap (option_map to) found), is)
        by x found is (inr other) = (x, find_beside_change pid_of p.pid x.pid other to (λ y. refl) w.procs ∙ found, is)

    pub moves_regs : (ended : List Ended) (files : OpenFiles) → ((own : ℕ) (who : Who) → first_ended own who w.ended ≡ None → first_ended own who ended ≡ None)
        → Shows p.table w.rest.files files → has_table files p.table ≡ true → Moves w p changed ended files
    moves_regs ended files none shows table = record {
      others = λ other q now beside was is.
          let same : q ≡ now = let e = sym was ∙ sym (find_beside_change pid_of p.pid other beside to (λ y. refl) w.procs) ∙ is in cc in
          subst (λ (x : Process). StillWaits w changed ended q x.state) same (still_same w changed ended q (λ who. none q.pid who) (λ who. child_changed q.pid who) q.state refl);
      own = λ now is.
          let same : to p ≡ now = let e = sym (find_changed pid_of p.pid to (λ y. refl) w.procs ∙ ap (option_map to) lives) ∙ is in cc in
          subst (λ (x : Process). IfWaits x.state ⊥ × (x.table ≡ p.table) × (has_table files p.table ≡ true)) same (no_wait p.state ready, refl, table);
      new = λ now is. absurd (not_there now (sym (find_beside_change pid_of p.pid w.next_pid (λ e. absurd (omega (arith, low))) to (λ y. refl) w.procs) ∙ is));
      shows = shows;
    }

  -- ---- a process that is gone

  module _ (how : How) where
    abbrev gone : Ended
    gone = record { pid = p.pid; parent = p.parent; how = how }

    abbrev left : List Process
    left = all_left_by p w.procs

    abbrev ended_then : List Ended
    ended_then = ended_behind gone w.ended

    -- another one's children, if the one that is gone was none of those that are meant
    module _ (q : Process) (beside : q.pid ≢ p.pid) (who : Who) (other : is_child q.pid who p.pid p.parent ≡ false) where
      none_left : first_ended q.pid who w.ended ≡ None → first_ended q.pid who ended_then ≡ None
      unfolding ended_behind
      none_left none =
          none_appended q.pid who (filter (λ child. not (child.parent == p.pid)) w.ended) (cond (p.parent == 0) [] (gone ∷ []))
          (none_filtered q.pid who (λ child. not (child.parent == p.pid)) w.ended none) (none_last q.pid who gone (p.parent == 0) other)

      stays_child : (x : Process) → is_child q.pid who x.pid x.parent ≡ true → is_child q.pid who x.pid (parent_behind p.pid x.parent) ≡ true
      stays_child x is =
          let at : x.parent ≡ q.pid = eqb_is x.parent q.pid (first_and (x.parent == q.pid) (is_meant who x.pid) is) in
          let away : (x.parent == p.pid) ≡ false = eqb_other x.parent p.pid (λ e. beside (sym at ∙ e)) in
          ap (λ (b : Bool). is_child q.pid who x.pid (cond b 0 x.parent)) away ∙ is
        where
          first_and : (a b : Bool) → (a && b) ≡ true → a ≡ true
          first_and true b h = refl
          first_and false b h = h

      child_left : has_child q.pid who w.procs ≡ true → has_child q.pid who left ≡ true
      child_left = children_stay q.pid who w.next_pid w.procs left falls
          (λ x found is. (left_by p x, find_left w.procs p x.pid (λ e. isnt_own x found is e) ∙ ap (option_map (left_by p)) found, stays_child x is))
        where
          isnt_own : (x : Process) → find pid_of x.pid w.procs ≡ Some x → is_child q.pid who x.pid x.parent ≡ true → x.pid ≡ p.pid → ⊥
          isnt_own x found is e =
              let same : x ≡ p = let two = sym found ∙ ap (λ (n : ℕ). find pid_of n w.procs) e ∙ lives in cc in
              let no : true ≡ false = sym is ∙ ap (λ (y : Process). is_child q.pid who y.pid y.parent) same ∙ other in
              cc

    module _ (q : Process) (beside : q.pid ≢ p.pid) where
      still_woken : (who : Who) (b : Bool) → is_child q.pid who p.pid p.parent ≡ b → q.state ≡ Waiting who → StillWaits w left ended_then q (resumed p.pid (cond b Ready (Waiting who)))
      unfolding resumed
      still_woken who true meant is = tt
      still_woken who false meant is = (is, none_left q beside who meant, child_left q beside who meant)

      still_lent : (child : ℕ) (b : Bool) → StillWaits w left ended_then q (cond b Ready (Lent child))
      still_lent child true = tt
      still_lent child false = tt

      still_left : (x : State) → q.state ≡ x → StillWaits w left ended_then q (state_behind q.pid p.pid p.parent x)
      unfolding state_behind resumed
      still_left Ready is = tt
      still_left (Waiting who) is = still_woken who (is_child q.pid who p.pid p.parent) refl is
      still_left (OnPipe id) is = is
      still_left (Lent child) is = still_lent child (child == p.pid)

    pub moves_left : Moves w p left ended_then (without_table (storage_of w.rest) p.table).files
    moves_left = record {
      others = λ other q now beside was is.
          let key : q.pid ≡ other = find_key pid_of other w.procs q was in
          let same : left_by p q ≡ now = let e = sym (find_left w.procs p other beside ∙ ap (option_map (left_by p)) was) ∙ is in cc in
          subst (λ (x : Process). StillWaits w left ended_then q x.state) same (still_left q (λ e. beside (sym key ∙ e)) q.state refl);
      own = λ now is. (let no : None ≡ Some now = sym (find_left_own w.procs p) ∙ is in absurd cc);
      new = λ now is.
          let none : option_map (left_by p) (find pid_of w.next_pid w.procs) ≡ Some now = sym (find_left w.procs p w.next_pid (λ e. absurd (omega (arith, low)))) ∙ is in
          absurd (by (find pid_of w.next_pid w.procs) refl none);
      shows = shows-without_table p.table (storage_of w.rest) counts;
    }
      where
        by : {now : Process} (o : Option Process) → find pid_of w.next_pid w.procs ≡ o → option_map (left_by p) o ≡ Some now → ⊥
        by None of is = cc
        by (Some q) of is = not_there q of

  -- ---- an execve

  module _ (l : Loading) where
    abbrev loaded : List Process
    loaded = (with_exec w p l).procs

    child_loaded : (own : ℕ) (who : Who) → has_child own who w.procs ≡ true → has_child own who loaded ≡ true
    child_loaded own who = children_stay own who w.next_pid w.procs loaded falls (λ x found is. by x found is (cases_eq x.pid p.pid))
      where
        by : (x : Process) → find pid_of x.pid w.procs ≡ Some x → is_child own who x.pid x.parent ≡ true → (x.pid ≡ p.pid) ⊎ (x.pid ≡ p.pid → ⊥)
            → (y : Process) × (find pid_of x.pid loaded ≡ Some y) × (is_child own who y.pid y.parent ≡ true)
        by x found is (inl e) =
            let same : x ≡ p = let two = sym found ∙ ap (λ (n : ℕ). find pid_of n w.procs) e ∙ lives in cc in
            (_, ap (λ (n : ℕ). find pid_of n loaded) e ∙ find_exec_own w p l lives, sym (ap (λ (y : Process). is_child own who y.pid y.parent) same) ∙ is)
        by x found is (inr other) = (let_go p.pid x, find_exec w p l x.pid other ∙ ap (option_map (let_go p.pid)) found, is)

    still_resumed : (q : Process) (x : State) → q.state ≡ x → StillWaits w loaded w.ended q (resumed p.pid x)
    unfolding resumed
    still_resumed q Ready is = tt
    still_resumed q (Waiting who) is = (is, λ none. none, child_loaded q.pid who)
    still_resumed q (OnPipe id) is = is
    still_resumed q (Lent child) is = by (child == p.pid)
      where
        by : (b : Bool) → StillWaits w loaded w.ended q (cond b Ready (Lent child))
        by true = tt
        by false = tt

    ready_resumed : (x : State) → x ≡ Ready → resumed p.pid x ≡ Ready
    unfolding resumed
    ready_resumed x is = ap (resumed p.pid) is

    pub moves_loaded : Moves w p loaded w.ended (exec_closed (storage_of w.rest) p.table).files
    moves_loaded = record {
      others = λ other q now beside was is.
          let same : let_go p.pid q ≡ now = let e = sym (find_exec w p l other beside ∙ ap (option_map (let_go p.pid)) was) ∙ is in cc in
          subst (λ (x : Process). StillWaits w loaded w.ended q x.state) same (still_resumed q q.state refl);
      own = λ now is.
          let table : has_table (exec_closed (storage_of w.rest) p.table).files p.table ≡ true = has-exec_closed p.table (storage_of w.rest) p.table ∙ has in
          let e = sym (find_exec_own w p l lives) ∙ is in
          let at : now.state ≡ resumed p.pid p.state = cc in
          let same : now.table ≡ p.table = cc in
          (no_wait now.state (at ∙ ready_resumed p.state ready), same, table);
      new = λ now is.
          let none : option_map (let_go p.pid) (find pid_of w.next_pid w.procs) ≡ Some now = sym (find_exec w p l w.next_pid (λ e. absurd (omega (arith, low)))) ∙ is in
          absurd (by (find pid_of w.next_pid w.procs) refl none);
      shows = shows-exec_closed p.table (storage_of w.rest) counts;
    }
      where
        by : {now : Process} (o : Option Process) → find pid_of w.next_pid w.procs ≡ o → option_map (let_go p.pid) o ≡ Some now → ⊥
        by None of is = cc
        by (Some q) of is = not_there q of

-- ---- a vfork

module _ (w : World) (a : Ask) (falls : Falls pid_of w.next_pid w.procs) (lives : find pid_of a.process.pid w.procs ≡ Some a.process) (has : has_table w.rest.files a.process.table ≡ true) where
  abbrev forked : List Process
  forked = (with_child w a).procs

  abbrev copied : OpenFiles
  copied = with_copy w.rest.files a.process.table

  below : (other : ℕ) (q : Process) → find pid_of other w.procs ≡ Some q → other ≢ w.next_pid
  below other q is e = let high : other < w.next_pid = find_below pid_of other w.next_pid w.procs q falls is in omega arith

  child_forked : (own : ℕ) (who : Who) → has_child own who w.procs ≡ true → has_child own who forked ≡ true
  child_forked own who = children_stay own who w.next_pid w.procs forked falls (λ x found is. by x found is (cases_eq x.pid a.process.pid))
    where
      by : (x : Process) → find pid_of x.pid w.procs ≡ Some x → is_child own who x.pid x.parent ≡ true → (x.pid ≡ a.process.pid) ⊎ (x.pid ≡ a.process.pid → ⊥)
          → (y : Process) × (find pid_of x.pid forked ≡ Some y) × (is_child own who y.pid y.parent ≡ true)
      by x found is (inl e) =
          let same : x ≡ a.process = let two = sym found ∙ ap (λ (n : ℕ). find pid_of n w.procs) e ∙ lives in cc in
          (_, ap (λ (n : ℕ). find pid_of n forked) e ∙ find_forked_own w a (below a.process.pid a.process lives) lives, sym (ap (λ (y : Process). is_child own who y.pid y.parent) same) ∙ is)
      by x found is (inr other) = (x, find_forked w a x.pid (below x.pid x found) other ∙ found, is)

  -- the table and its copy
  both_there : (o : Option Table) → table_at w.rest.files a.process.table ≡ o → is_some o ≡ true
      → (has_table copied a.process.table ≡ true) × (has_table copied (free_number w.rest.files.tables) ≡ true)
  both_there None of there = absurd cc
  both_there (Some table) of there =
      (ap is_some (copy_keeps_tables a.process.table w.rest.files a.process.table table table of of), ap is_some (copy_there w.rest.files a.process.table table of))

  pub moves_forked : Moves w a.process forked w.ended copied
  moves_forked =
      let there = both_there (table_at w.rest.files a.process.table) refl has in
      record {
        others = λ other q now beside was is.
            let same : q ≡ now = let e = sym was ∙ sym (find_forked w a other (below other q was) beside) ∙ is in cc in
            subst (λ (x : Process). StillWaits w forked w.ended q x.state) same (still_same w forked w.ended q (λ who none. none) (λ who. child_forked q.pid who) q.state refl);
        own = λ now is.
            let e = sym (find_forked_own w a (below a.process.pid a.process lives) lives) ∙ is in
            let at : now.state ≡ Lent w.next_pid = cc in
            let same : now.table ≡ a.process.table = cc in
            (subst (λ (x : State). IfWaits x ⊥) (sym at) tt, same, there.0);
        new = λ now is.
            let same : child_of w a ≡ now = let e = sym (find_forked_child w a) ∙ is in cc in
            subst (λ (x : Process). IfWaits x.state ⊥ × (x.table ≡ free_number w.rest.files.tables) × (has_table copied x.table ≡ true)) same (tt, refl, there.1);
        shows = shows-with_copy a.process.table w.rest.files a.process.table;
      }
