-- In the opening world each process has a table of its own, and none waits.
use Rattle.std.proofs.Common.{◌≡◌, ℕ, Bool, true, false, List, [], ◌∷◌, Option, Some, None, Result, Ok, Err, ◌⊎◌, inl, inr, refl, sym, ap, subst, ◌∙◌, arith}
use Rattle.std.specs.Prelude.{is_some}
use Rattle.std.proofs.lemmas.Bool.{cases_eq}
use Rattle.flat_loader.specs.Original.{block_pages}
use Rattle.flat_loader.specs.Frame.{frame_fits}
use Rattle.flat_loader.specs.Begin.{Loading, begin_regs}
use Rattle.fd_tables.specs.Files.{Table, OpenFiles, free_number, table_at}
use Rattle.fd_tables.proofs.NextNumbers.{free_nothing}
use Rattle.fd_tables.proofs.TablesThere.{has_table, table_keeps_tables, new_table_there}
use Rattle.vfork_exec.specs.declared.family.State.{State}
use Rattle.vfork_exec.specs.declared.family.State.TheVariants.{Ready, Lent}
use Rattle.vfork_exec.specs.Keyed.{find}
use Rattle.vfork_exec.proofs.Keyed.{eqb_same, find_head, find_later}
use Rattle.machine_world.specs.World.{Process, Rest, World, pid_of}
use Rattle.machine_world.specs.Free.{free}
use Rattle.machine_world.specs.Boot.{StartLine, BootFault, Found, found, start_path, begun, taken, placed, fitting, located, started, all_started, then_started, empty_world, boot}
use Rattle.machine_world.proofs.CountedBoots.{boots_begin_counted}
use Rattle.machine_world.proofs.Marks.{boots_leave_no_mark}
use Rattle.alone_laws.proofs.SoundRuns.{boots_are_sound}
use Rattle.waits_laws.specs.Waits.{WaitsAgain, IfWaits}
use Rattle.waits_laws.specs.Laws.{IsOrdered, BootsWaitWell}

record Opens (w : World) : Type 0 where
  has_table : (pid : ℕ) (p : Process) → find pid_of pid w.procs ≡ Some p → has_table w.rest.files p.table ≡ true
  own_table : (i j : ℕ) (p q : Process) → find pid_of i w.procs ≡ Some p → find pid_of j w.procs ≡ Some q → p.table ≡ q.table → i ≡ j
  ready : (pid : ℕ) (p : Process) → find pid_of pid w.procs ≡ Some p → p.state ≡ Ready

-- ---- one program more

module _ (w : World) (opens : Opens w) (index : ℕ) (l : Loading) where
  abbrev now : World
  now = begun w index l

  abbrev free_table : ℕ
  free_table = free_number w.rest.files.tables

  abbrev it : Process
  it = record { pid = w.next_pid; parent = 0; regs = begin_regs l; space = w.loads; table = free_table; state = Ready }

  -- it is the new one, or was there
  which : (pid : ℕ) (p : Process) → find pid_of pid now.procs ≡ Some p → ((pid ≡ w.next_pid) × (it ≡ p)) ⊎ (find pid_of pid w.procs ≡ Some p)
  which pid p is = by (cases_eq w.next_pid pid)
    where
      by : (w.next_pid ≡ pid) ⊎ (w.next_pid ≡ pid → ⊥) → ((pid ≡ w.next_pid) × (it ≡ p)) ⊎ (find pid_of pid w.procs ≡ Some p)
      by (inl e) =
          let all = sym (find_head pid_of pid it w.procs true (eqb_same w.next_pid pid e)) ∙ is in
          inl (sym e, (let same : it ≡ p = cc in same))
      by (inr other) = inr (sym (find_later pid_of pid it w.procs other) ∙ is)

  keeps : (t : ℕ) (o : Option Table) → table_at w.rest.files t ≡ o → is_some o ≡ true → has_table now.rest.files t ≡ true
  keeps t (Some table) is there = ap is_some (table_keeps_tables t w.rest.files table is)
  keeps t None is there = absurd cc

  no_table : has_table w.rest.files free_table ≡ false
  no_table = ap is_some (free_nothing w.rest.files.tables)

  new_was : (pid : ℕ) (p q : Process) → it ≡ p → find pid_of pid w.procs ≡ Some q → p.table ≡ q.table → ⊥
  new_was pid p q new old same =
      let at : free_table ≡ q.table = ap (λ (x : Process). x.table) new ∙ same in
      let there : has_table w.rest.files free_table ≡ true = subst (λ (n : ℕ). has_table w.rest.files n ≡ true) (sym at) (opens.has_table pid q old) in
      let none : has_table w.rest.files free_table ≡ false = no_table in
      cc

  table_by : (pid : ℕ) (p : Process) → ((pid ≡ w.next_pid) × (it ≡ p)) ⊎ (find pid_of pid w.procs ≡ Some p) → has_table now.rest.files p.table ≡ true
  table_by pid p (inl new) = subst (λ (x : Process). has_table now.rest.files x.table ≡ true) new.1 (ap is_some (new_table_there w.rest.files))
  table_by pid p (inr old) = keeps p.table (table_at w.rest.files p.table) refl (opens.has_table pid p old)

  one_by : (i j : ℕ) (p q : Process) → ((i ≡ w.next_pid) × (it ≡ p)) ⊎ (find pid_of i w.procs ≡ Some p) → ((j ≡ w.next_pid) × (it ≡ q)) ⊎ (find pid_of j w.procs ≡ Some q)
      → p.table ≡ q.table → i ≡ j
  one_by i j p q (inl a) (inl b) same = a.0 ∙ sym b.0
  one_by i j p q (inl a) (inr b) same = absurd (new_was j p q a.1 b same)
  one_by i j p q (inr a) (inl b) same = absurd (new_was i q p b.1 a (sym same))
  one_by i j p q (inr a) (inr b) same = opens.own_table i j p q a b same

  ready_by : (pid : ℕ) (p : Process) → ((pid ≡ w.next_pid) × (it ≡ p)) ⊎ (find pid_of pid w.procs ≡ Some p) → p.state ≡ Ready
  ready_by pid p (inl new) = sym (ap (λ (x : Process). x.state) new.1)
  ready_by pid p (inr old) = opens.ready pid p old

  begun_opens : Opens (begun w index l)
  begun_opens = record {
    has_table = λ pid p is. table_by pid p (which pid p is);
    own_table = λ i j p q first second same. one_by i j p q (which i p first) (which j q second) same;
    ready = λ pid p is. ready_by pid p (which pid p is);
  }

-- ---- the start lines

abbrev Begins : Result World BootFault → Type 0
Begins (Ok now) = Opens now
Begins (Err fault) = Unit {0}

module _ (w : World) (opens : Opens w) (s : StartLine) where
  begins_placed : (f : Found) (page : Option ℕ) → Begins (placed w s f page)
  begins_placed f None = tt
  begins_placed f (Some page) = begun_opens w opens f.index _

  begins_fitting : (f : Found) (fits : Bool) → Begins (fitting w s f fits)
  begins_fitting f true = begins_placed f (taken w (block_pages f.original) (free w))
  begins_fitting f false = tt

  begins_located : (o : Option Found) → Begins (located w s o)
  begins_located None = tt
  begins_located (Some f) = begins_fitting f (frame_fits f.original s.args [])

  begins_started : Begins (started w s)
  unfolding started
  begins_started = begins_located (found w.rest (start_path s))

begins_all : (ss : List StartLine) (w : World) → Opens w → Begins (all_started w ss)
unfolding all_started
begins_all [] w opens = opens
begins_all (s ∷ ss) w opens = on (started w s) (begins_started w opens s) (λ v. begins_all ss v)
  where
    on : (r : Result World BootFault) → Begins r → ((v : World) → Opens v → Begins (all_started v ss)) → Begins (then_started r (λ now. all_started now ss))
    on (Ok now) opens more = more now opens
    on (Err fault) opens more = tt

empty_opens : (rest : Rest) → Opens (empty_world rest)
unfolding find
empty_opens rest = record {
  has_table = λ pid p is. absurd cc;
  own_table = λ i j p q is other same. absurd cc;
  ready = λ pid p is. absurd cc;
}

boot_opens : (rest : Rest) (starts : List StartLine) (w : World) → boot rest starts ≡ Ok w → Opens w
unfolding boot
boot_opens rest starts w is = subst Begins is (begins_all starts (empty_world rest) (empty_opens rest))

pub boots_wait_well : BootsWaitWell
boots_wait_well rest starts w can closed few is =
    let opens : Opens w = boot_opens rest starts w is in
    let order : IsOrdered w = record {
      sound = boots_are_sound rest starts w can few is;
      counted = boots_begin_counted rest starts w closed (omega (arith, few)) is;
      unmarked = boots_leave_no_mark rest starts w (ap (λ (fs : OpenFiles). fs.changed) closed) is;
    } in (
      order,
      record {
        has_table = opens.has_table;
        own_table = opens.own_table;
        chains = order.sound.chains;
        lenders = λ pid child p is stands. (let ready : Ready ≡ Lent child = sym (opens.ready pid p is) ∙ stands in absurd cc);
        waits = λ pid p is. subst (λ (x : State). IfWaits x (WaitsAgain w p)) (sym (opens.ready pid p is)) tt;
      },
    )
