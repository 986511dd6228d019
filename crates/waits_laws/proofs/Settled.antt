-- Who waits would wait again, in a world in which each other process that waits did so before and finds all as it was.
use Rattle.std.proofs.Common.{◌≡◌, ◌≢◌, ℕ, ◌<◌, Bool, true, false, List, [], ◌∷◌, Option, Some, None, ◌⊎◌, inl, inr, refl, sym, ap, subst, ◌∙◌, arith}
use Rattle.std.specs.Prelude.{◌==◌, is_some}
use Rattle.std.proofs.lemmas.Bool.{cases_eq, cases_Bool}
use Rattle.fd_tables.specs.declared.view.View.{View}
use Rattle.fd_tables.specs.declared.view.Target.TheVariants.{Console, Node, Pipe}
use Rattle.fd_tables.specs.declared.open_file.OpenFile.{OpenFile}
use Rattle.fd_tables.specs.declared.open_file.Object.{Object}
use Rattle.fd_tables.specs.declared.open_file.Object.TheVariants.{File, PipeEnd}
use Rattle.fd_tables.specs.declared.open_file.Handle.{Handle}
use Rattle.fd_tables.specs.declared.open_file.Handle.TheVariants.{Input, Output, Open}
use Rattle.fd_tables.specs.declared.open_file.Descriptor.{Descriptor}
use Rattle.fd_tables.specs.Files.{OpenFiles, at_number, table_at, free_number, descriptor, file_view, handle_view, descriptor_view, view}
use Rattle.fd_tables.specs.Pipes.{pipe_id, pipe_view}
use Rattle.fd_tables.specs.Changes.{Storage, storage}
use Rattle.fd_tables.specs.Counts.{Counted}
use Rattle.fd_tables.proofs.NextNumbers.{free_nothing}
use Rattle.fd_tables.proofs.EndCounts.{EndThere, end_there}
use Rattle.fd_tables.proofs.Sound.{counted_ends}
use Rattle.fd_tables.proofs.TablesThere.{has_table}
use Rattle.vfork_exec.specs.declared.family.Who.{Who}
use Rattle.vfork_exec.specs.declared.family.State.{State}
use Rattle.vfork_exec.specs.declared.family.State.TheVariants.{Ready, Waiting, OnPipe, Lent}
use Rattle.vfork_exec.specs.Keyed.{find}
use Rattle.vfork_exec.specs.Families.{first_ended}
use Rattle.vfork_exec.proofs.Keyed.{find_key, find_below, find_head, find_later}
use Rattle.machine_world.specs.World.{Process, World, pid_of, id_of}
use Rattle.machine_world.specs.Families.{has_child, sharing, is_lent, AreLenders, AreChains}
use Rattle.machine_world.specs.Event.{waited, answer}
use Rattle.machine_world.specs.Others.{KeepsOwn, IsKept, LeavesOthers}
use Rattle.machine_world.proofs.Chains.{find_sharing, head_ready}
use Rattle.waits_laws.specs.Waits.{WaitsAgain, IfWaits, WaitsWell}
use Rattle.waits_laws.specs.Laws.{IsOrdered}
use Rattle.waits_laws.proofs.Again.{AsBefore, waits_again}
use Rattle.waits_laws.proofs.Lenders.{AreLent}

-- ---- a pipe to which a descriptor leads has its number

module _ (fs : OpenFiles) (id : ℕ) (end : Bool) (counts : (n : ℕ) (f : OpenFile) → at_number fs.files n ≡ Some f → f.object ≡ PipeEnd id → id < fs.next_pipe) where
  given_object : (n : ℕ) (d : Descriptor) (v : View) (f : OpenFile) (o : Object) → at_number fs.files n ≡ Some f → f.object ≡ o → file_view d (Some f) ≡ Some v → v.target ≡ Pipe id end → id < fs.next_pipe
  given_object n d v f (File node) at of is leads =
      let shown = rw of at is in
      let target : v.target ≡ Node node = cc in
      let no : ⊥ = cc in
      absurd no
  given_object n d v f (PipeEnd pipe) at of is leads =
      let shown = rw of at is in
      let target : v.target ≡ Pipe pipe f.write = cc in
      let same : pipe ≡ id = cc in
      counts n f at (of ∙ ap PipeEnd same)

  given_file : (n : ℕ) (d : Descriptor) (v : View) (o : Option OpenFile) → at_number fs.files n ≡ o → file_view d o ≡ Some v → v.target ≡ Pipe id end → id < fs.next_pipe
  given_file n d v None at is leads = absurd cc
  given_file n d v (Some f) at is leads = given_object n d v f f.object at refl is leads

  given_handle : (d : Descriptor) (v : View) (h : Handle) → handle_view fs d h ≡ Some v → v.target ≡ Pipe id end → id < fs.next_pipe
  given_handle d v Input is leads = let shown : v.target ≡ Console = cc in let no : ⊥ = cc in absurd no
  given_handle d v Output is leads = let shown : v.target ≡ Console = cc in let no : ⊥ = cc in absurd no
  given_handle d v (Open n) is leads = given_file n d v (at_number fs.files n) refl is leads

  given_by : (v : View) (o : Option Descriptor) → descriptor_view fs o ≡ Some v → v.target ≡ Pipe id end → id < fs.next_pipe
  given_by v None is leads = absurd cc
  given_by v (Some d) is leads = given_handle d v d.handle is leads

pub pipe_given : (s : Storage) (t fd : ℕ) (v : View) (id : ℕ) (end : Bool) → Counted s → view s.files t fd ≡ Some v → v.target ≡ Pipe id end → id < s.files.next_pipe
unfolding view
pipe_given s t fd v id end counts is leads =
    given_by s.files id end
    (λ n f at of.
    let there : EndThere s.files id f.write = end_there s.files.files s.files n id f at of (counted_ends s counts) in
    find_below pipe_id id s.files.next_pipe s.files.pipes there.pipe counts.pipe_numbers there.there)
    v (descriptor s.files t fd) is leads

-- ---- a lender stands still

lenders_stand : (other : ℕ) (q : Process) (child : ℕ) (qs : List Process) → AreLenders child qs → find pid_of other qs ≡ Some q → is_lent q.state ≡ true
unfolding find
lenders_stand other q child [] lends is = absurd cc
lenders_stand other q child (x ∷ qs) lends is = elim (cases_Bool (x.pid == other)) [
  | inl here ↦
      let same : x ≡ q = let e = sym (find_head pid_of other x qs true here) ∙ is in cc in
      ap is_lent (sym (ap (λ (y : Process). y.state) same) ∙ lends.0)
  | inr later ↦ lenders_stand other q x.pid qs lends.1 (sym (find_head pid_of other x qs false later) ∙ is)
]

-- ---- what is to be shown

-- a process that waits, by its state now: it waited for the same before, and all that it waits for is as it was
abbrev pub Found : World → World → Process → State → Type 0
Found w now q Ready = Unit {0}
Found w now q (Waiting who) =
    (q.state ≡ Waiting who) × (first_ended q.pid who w.ended ≡ None → first_ended q.pid who now.ended ≡ None) × (has_child q.pid who w.procs ≡ true → has_child q.pid who now.procs ≡ true)
Found w now q (OnPipe id) = (q.state ≡ OnPipe id) × (id < w.rest.files.next_pipe → pipe_view now.rest.files id ≡ pipe_view w.rest.files id)
Found w now q (Lent child) = Unit {0}

pub record Settled (w : World) (p : Process) (now : World) : Type 0 where
  pub others : (other : ℕ) (q later : Process) → other ≢ p.pid → find pid_of other w.procs ≡ Some q → find pid_of other now.procs ≡ Some later → Found w now q later.state
  pub own : (later : Process) → find pid_of p.pid now.procs ≡ Some later → IfWaits later.state (WaitsAgain now later) × (later.table ≡ p.table) × (has_table now.rest.files p.table ≡ true)
  pub new : (later : Process) → find pid_of w.next_pid now.procs ≡ Some later → IfWaits later.state ⊥ × (later.table ≡ free_number w.rest.files.tables) × (has_table now.rest.files later.table ≡ true)
  pub views : (other fd : ℕ) (v : View) (id : ℕ) (end : Bool) → other ≢ p.table → view w.rest.files other fd ≡ Some v → v.target ≡ Pipe id end → view now.rest.files other fd ≡ Some v

pub if_none : (x : State) (P : Type 0) → IfWaits x ⊥ → IfWaits x P
if_none Ready P h = tt
if_none (Waiting who) P h = absurd h
if_none (OnPipe pipe) P h = absurd h
if_none (Lent child) P h = tt

module _ (w : World) (p : Process) (now : World) (order : IsOrdered w) (well : WaitsWell w) (lives : find pid_of p.pid w.procs ≡ Some p) (ready : p.state ≡ Ready)
    (leaves : LeavesOthers p.pid p.space p.table w now) (settled : Settled w p now) where
  -- ---- another process that waits

  module _ (other : ℕ) (q later : Process) (beside : other ≢ p.pid) (was : find pid_of other w.procs ≡ Some q) (is : find pid_of other now.procs ≡ Some later) (keeps : KeepsOwn q later) where
    other_table : q.table ≢ p.table
    other_table same = beside (well.own_table other p.pid q p was lives same)

    other_space : is_lent q.state ≡ false → q.space ≢ p.space
    other_space stands same =
        let head = head_ready w.procs p.pid p well.chains lives ready in
        let among : find pid_of other (p ∷ head.0) ≡ Some q = ap (find pid_of other) (sym (ap (λ (n : ℕ). sharing n w.procs) same ∙ head.1)) ∙ find_sharing other q w.procs was in
        let behind : find pid_of other head.0 ≡ Some q = sym (find_later pid_of other p head.0 (λ e. beside (sym e))) ∙ among in
        let lent : is_lent q.state ≡ true = lenders_stand other q p.pid head.0 head.2 behind in
        cc

    abbrev kept : Process
    kept = record q { parent = later.parent; state = later.state }

    later_is : later ≡ kept
    later_is =
        let pid : later.pid ≡ q.pid = find_key pid_of other now.procs later is ∙ sym (find_key pid_of other w.procs q was) in
        λ j. record { pid = pid j; parent = later.parent; regs = keeps.regs j; space = keeps.space j; table = keeps.table j; state = later.state }

    lives_itself : find pid_of q.pid w.procs ≡ Some q
    lives_itself = ap (λ (n : ℕ). find pid_of n w.procs) (find_key pid_of other w.procs q was) ∙ was

    again : (x : State) → later.state ≡ x → q.state ≡ x → is_lent x ≡ false → AsBefore w now q x → WaitsAgain w q → WaitsAgain now later
    again x at of stands same old =
        let space : find id_of q.space now.spaces ≡ Some old.space =
        leaves.spaces q.space (other_space (ap is_lent of ∙ stands)) (λ e. absurd (by e)) ∙ old.has in
        let waits : answer w q old.space.space ≡ waited w q x = old.again ∙ ap (waited w q) of in
        let now_waits : answer now kept old.space.space ≡ waited now kept x = waits_again w now q later.parent later.state old.space.space x lives_itself same waits in
        subst (WaitsAgain now) (sym later_is) (record { space = old.space; has = space; at_call = old.at_call; again = now_waits ∙ ap (waited now kept) (sym at) })
      where
        by : q.space ≡ w.loads → ⊥
        by e = let below : q.space < w.loads = find_below id_of q.space w.loads w.spaces old.space order.sound.numbers old.has in omega arith

    waits_by : (x : State) → later.state ≡ x → Found w now q x → IfWaits q.state (WaitsAgain w q) → IfWaits x (WaitsAgain now later)
    waits_by Ready at found old = tt
    waits_by (Lent child) at found old = tt
    waits_by (Waiting who) at found old =
        again (Waiting who) at found.0 refl (record {
          views = λ fd v id end shown leads. settled.views q.table fd v id end other_table shown leads;
          pipes = λ fd v id end shown leads on. absurd cc;
          ended = λ meant on none. (let same : who ≡ meant = cc in subst (λ (m : Who). first_ended q.pid m now.ended ≡ None) same (found.1 (subst (λ (m : Who). first_ended q.pid m w.ended ≡ None) (sym same) none)));
          child = λ meant on has. (let same : who ≡ meant = cc in subst (λ (m : Who). has_child q.pid m now.procs ≡ true) same (found.2 (subst (λ (m : Who). has_child q.pid m w.procs ≡ true) (sym same) has)));
        }) (subst (λ (x : State). IfWaits x (WaitsAgain w q)) found.0 old)
    waits_by (OnPipe pipe) at found old =
        again (OnPipe pipe) at found.0 refl (record {
          views = λ fd v id end shown leads. settled.views q.table fd v id end other_table shown leads;
          pipes = λ fd v id end shown leads on.
              (let same : pipe ≡ id = cc in
              subst (λ (n : ℕ). pipe_view now.rest.files n ≡ pipe_view w.rest.files n) same
              (found.1 (subst (λ (n : ℕ). n < w.rest.files.next_pipe) (sym same) (pipe_given (storage order.counted.counted.nodes w.rest.files) q.table fd v id end order.counted.counted.counts shown leads))));
          ended = λ who on. absurd cc;
          child = λ who on. absurd cc;
        }) (subst (λ (x : State). IfWaits x (WaitsAgain w q)) found.0 old)

    pub other_waits : IfWaits later.state (WaitsAgain now later)
    other_waits = waits_by later.state refl (settled.others other q later beside was is) (well.waits other q was)

  -- ---- each process is the one of the event, a new one, or one that was there

  record Old (other : ℕ) (later : Process) : Type 0 where
    was : Process
    there : find pid_of other w.procs ≡ Some was
    keeps : KeepsOwn was later
    beside : other ≢ p.pid

  record New (other : ℕ) (later : Process) : Type 0 where
    next : other ≡ w.next_pid
    waits : IfWaits later.state ⊥
    table : later.table ≡ free_number w.rest.files.tables
    has : has_table now.rest.files later.table ≡ true

  record Own (other : ℕ) (later : Process) : Type 0 where
    pid : other ≡ p.pid
    waits : IfWaits later.state (WaitsAgain now later)
    table : later.table ≡ p.table
    has : has_table now.rest.files p.table ≡ true

  abbrev Known : ℕ → Process → Type 0
  Known other later = Own other later ⊎ (New other later ⊎ Old other later)

  known : (other : ℕ) (later : Process) → find pid_of other now.procs ≡ Some later → Known other later
  known other later is = by (cases_eq other p.pid) (cases_eq other w.next_pid)
    where
      was_there : other ≢ p.pid → (o : Option Process) → find pid_of other w.procs ≡ o → IsKept o (Some later) → Old other later
      was_there beside None of keeps = absurd keeps
      was_there beside (Some q) of keeps = record { was = q; there = of; keeps = keeps; beside = beside }

      by : (other ≡ p.pid) ⊎ (other ≡ p.pid → ⊥) → (other ≡ w.next_pid) ⊎ (other ≡ w.next_pid → ⊥) → Known other later
      by (inl e) next =
          let own = settled.own later (ap (λ (n : ℕ). find pid_of n now.procs) (sym e) ∙ is) in
          inl (record { pid = e; waits = own.0; table = own.1; has = own.2 })
      by (inr beside) (inl e) =
          let new = settled.new later (ap (λ (n : ℕ). find pid_of n now.procs) (sym e) ∙ is) in
          inr (inl (record { next = e; waits = new.0; table = new.1; has = new.2 }))
      by (inr beside) (inr old) =
          inr (inr (was_there beside (find pid_of other w.procs) refl (subst (IsKept (find pid_of other w.procs)) is (leaves.procs other beside old))))

  -- ---- tables

  old_table : (other : ℕ) (later : Process) → Old other later → table_at now.rest.files later.table ≡ table_at w.rest.files later.table
  old_table other later old =
      let same : later.table ≡ old.was.table = old.keeps.table in
      let beside : old.was.table ≢ p.table = λ e. old.beside (well.own_table other p.pid old.was p old.there lives e) in
      subst (λ (n : ℕ). table_at now.rest.files n ≡ table_at w.rest.files n) (sym same) (leaves.tables old.was.table beside (well.has_table other old.was old.there))

  table_before : (other : ℕ) (later : Process) → Old other later → has_table w.rest.files later.table ≡ true
  table_before other later old = subst (λ (n : ℕ). has_table w.rest.files n ≡ true) (sym old.keeps.table) (well.has_table other old.was old.there)

  known_table : (other : ℕ) (later : Process) → Known other later → has_table now.rest.files later.table ≡ true
  known_table other later (inl own) = subst (λ (n : ℕ). has_table now.rest.files n ≡ true) (sym own.table) own.has
  known_table other later (inr (inl new)) = new.has
  known_table other later (inr (inr old)) = ap is_some (old_table other later old) ∙ table_before other later old

  -- a new table stands where none was
  not_new : (t : ℕ) → has_table w.rest.files t ≡ true → t ≡ free_number w.rest.files.tables → ⊥
  not_new t has is =
      let none : has_table w.rest.files (free_number w.rest.files.tables) ≡ false = ap is_some (free_nothing w.rest.files.tables) in
      let there : has_table w.rest.files (free_number w.rest.files.tables) ≡ true = subst (λ (n : ℕ). has_table w.rest.files n ≡ true) is has in
      cc

  p_table : has_table w.rest.files p.table ≡ true
  p_table = well.has_table p.pid p lives

  one_table : (i j : ℕ) (x y : Process) → Known i x → Known j y → x.table ≡ y.table → i ≡ j
  one_table i j x y (inl a) (inl b) same = a.pid ∙ sym b.pid
  one_table i j x y (inl a) (inr (inl b)) same = absurd (not_new p.table p_table (sym a.table ∙ same ∙ b.table))
  one_table i j x y (inl a) (inr (inr b)) same = absurd (b.beside (sym (well.own_table p.pid j p b.was lives b.there (sym a.table ∙ same ∙ b.keeps.table))))
  one_table i j x y (inr (inl a)) (inl b) same = absurd (not_new p.table p_table (sym b.table ∙ sym same ∙ a.table))
  one_table i j x y (inr (inl a)) (inr (inl b)) same = a.next ∙ sym b.next
  one_table i j x y (inr (inl a)) (inr (inr b)) same = absurd (not_new y.table (table_before j y b) (sym same ∙ a.table))
  one_table i j x y (inr (inr a)) (inl b) same = absurd (a.beside (well.own_table i p.pid a.was p a.there lives (sym a.keeps.table ∙ same ∙ b.table)))
  one_table i j x y (inr (inr a)) (inr (inl b)) same = absurd (not_new x.table (table_before i x a) (same ∙ b.table))
  one_table i j x y (inr (inr a)) (inr (inr b)) same = well.own_table i j a.was b.was a.there b.there (sym a.keeps.table ∙ same ∙ b.keeps.table)

  known_waits : (other : ℕ) (later : Process) → find pid_of other now.procs ≡ Some later → Known other later → IfWaits later.state (WaitsAgain now later)
  known_waits other later is (inl own) = own.waits
  known_waits other later is (inr (inl new)) = if_none later.state (WaitsAgain now later) new.waits
  known_waits other later is (inr (inr old)) = other_waits other old.was later old.beside old.there is old.keeps

  pub well_settled : AreChains now.procs → AreLent now → WaitsWell now
  well_settled chains lenders = record {
    has_table = λ other later is. known_table other later (known other later is);
    own_table = λ i j x y first second same. one_table i j x y (known i x first) (known j y second) same;
    chains = chains;
    lenders = lenders;
    waits = λ other later is. known_waits other later is (known other later is);
  }
