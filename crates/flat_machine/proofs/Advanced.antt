-- The parts after instructions of one process.
use Rattle.std.proofs.Common.{get_or, ◌<◌, ◌≡◌, ℕ, ◌≤◌, true, not, List, length, map, Option, Some, None, refl, sym, ap, subst, ◌∙◌, arith}
use Rattle.std.specs.Prelude.{slice_get, slice_set, option_map}
use Rattle.rv32im_step.specs.declared.regs.Regs.{Regs}
use Rattle.rv32im_step.specs.declared.stop.Stop.{Stop}
use Rattle.rv32im_step.specs.declared.stop.Stop.TheVariants.{Next, Call, Trap, Refused}
use Rattle.std.proofs.lemmas.Option.{get_or_from_slice_get, slice_get_within}
use Rattle.mmap_rules.specs.declared.page_owner.PageOwner.{PageOwner}
use Rattle.mmap_rules.specs.Owners.{owns}
use Rattle.mmap_rules.specs.Space.{own_in, writable_in}
use Rattle.mmap_rules.specs.Held.{Held}
use Rattle.region_watch.specs.Private.{only, physical, own_bytes, frozen}
use Rattle.region_watch.specs.Instructions.{Ran, ran, instructions}
use Rattle.vfork_exec.specs.declared.entry.Entry.{Entry}
use Rattle.vfork_exec.specs.declared.family.State.TheVariants.{Ready}
use Rattle.vfork_exec.specs.Keyed.{find, change}
use Rattle.vfork_exec.specs.Procs.{Listed, process, value_at, CanRun, with_value, with_value_at}
use Rattle.vfork_exec.specs.Procs.{pid_of as entry_pid}
use Rattle.vfork_exec.proofs.Keyed.{find_changed}
use Rattle.machine_world.specs.World.{World, pid_of, id_of}
use Rattle.machine_world.specs.Courses.{Leads, Halts, moved}
use Rattle.machine_world.specs.Recordings.{raised_in}
use Rattle.machine_world.proofs.States.{find_has, change_alike, with_regs, with_own}
use Rattle.machine_world.proofs.Steps.{RanOn, run_on}
use Rattle.kept_parts.specs.declared.task.Task.{Task}
use Rattle.kept_parts.specs.Kept.{Kept}
use Rattle.region_watch.specs.declared.mode.Mode.TheVariants.{Halt}
use Rattle.kept_parts.specs.Reach.{Reaches}
use Rattle.kept_parts.specs.Regular.{Regular, HasSpace}
use Rattle.kept_parts.specs.Copies.{CopiesHold}
use Rattle.kept_parts.specs.Stands.{About, later, private_bytes, private_of, live_spaces, process_of, world_of}
use Rattle.kept_parts.proofs.Common.FoundInWorld.{find_space, change_space, find_process, change_process}
use Rattle.kept_parts.proofs.Common.SpacesApart.{others_keep}
use Rattle.kept_parts.proofs.Common.StaysRegular.{regular_stays, set_kept}
use Rattle.kept_parts.proofs.Copies.SameBytes.{copies_frozen}
use Rattle.kept_parts.proofs.Common.Recorded.{regular_recorded}

-- a process with what is kept of it
pub record Entered (s : Listed Task) (pid : ℕ) (task : Task) : Type 0 where
  pub entry : Entry Task
  pub there : process s pid ≡ Some entry
  pub value : entry.value ≡ task

pub entered : (s : Listed Task) (pid : ℕ) (task : Task) → value_at s pid ≡ Some task → Entered s pid task
entered s pid task is = at (process s pid) refl is
  where
    at : (o : Option (Entry Task)) → process s pid ≡ o → option_map (λ (e : Entry Task). e.value) o ≡ Some task → Entered s pid task
    at None there e = absurd cc
    at (Some entry) there e = record { entry = entry; there = there; value = cc }

-- what instructions of a process leave of memory and registers, over the bytes that this table owns
pub record Ranged (k : Kept) (pid count : ℕ) (e : Entry Task) (h : Held) (table : List PageOwner) (now : List ℕ) (regs : Regs) (done : ℕ) (stop : Stop) : Type 0 where
  pub regular : Regular k
  pub copies : CopiesHold k.regions k.mem k.tree k.notes
  pub lives : process k.procs pid ≡ Some e
  pub home : slice_get k.spaces e.value.space ≡ Some (Some h)
  pub leaves : ran regs (own_bytes table now) done stop ≡ instructions count (owns table true) e.value.regs (own_bytes table k.mem)
  pub frozen : frozen table now ≡ frozen table k.mem
  pub length : length now ≡ length k.mem

abbrev pub after : Kept → ℕ → Task → Regs → List ℕ → ℕ → Kept
after k pid t regs now done = record k {
  mem = now;
  procs = with_value_at k.procs pid (record t { regs = regs });
  recording = record k.recording { events = raised_in k.recording t.space done };
}

module _ (k : Kept) (pid count : ℕ) (e : Entry Task) (h : Held) (table : List PageOwner) (now : List ℕ) (regs : Regs) (done : ℕ) (stop : Stop)
    (r : Ranged k pid count e h table now regs done stop) where
  pub after_regular : Regular (after k pid e.value regs now done)
  after_regular =
      let P : List (Option Held) → Type 0 = λ spaces. Regular (record (after k pid e.value regs now done) { spaces = spaces }) in
      let there = regular_stays k pid e h r.regular r.lives r.home regs h.brk now r.length k.notes (omega arith) k.tree k.files k.console in
      subst P (set_kept k.spaces e.value.space (Some h) r.home) (regular_recorded (record k {
        mem = now;
        procs = with_value_at k.procs pid (record e.value { regs = regs });
        spaces = slice_set k.spaces e.value.space (Some (record h { brk = h.brk }));
      }) there (record k.recording { events = raised_in k.recording e.value.space done }))

  -- it has the state that it had
  pub after_ready : CanRun k.procs pid → CanRun (after k pid e.value regs now done).procs pid
  after_ready ready =
      let value : Task = record e.value { regs = regs } in
      let is = find_changed entry_pid pid (λ (x : Entry Task). with_value x value) (λ x. refl) k.procs.entries ∙ ap (option_map (λ (x : Entry Task). with_value x value)) r.lives in
      let state : Some e.state ≡ Some Ready = ap (option_map (λ (x : Entry Task). x.state)) (sym r.lives) ∙ ready in
      ap (option_map (λ (x : Entry Task). x.state)) is ∙ state

  module _ (a : About) where
    pub lives_in : find pid_of pid (world_of a k).procs ≡ Some (process_of e)
    unfolding world_of
    lives_in = find_process pid k.procs.entries ∙ ap (option_map process_of) r.lives

    pub has_in : find id_of e.value.space (world_of a k).spaces ≡ Some (record { id = e.value.space; space = private_of k.mem h })
    unfolding world_of
    has_in = find_space k.mem k.spaces e.value.space h r.home

    pub procs_in : map process_of (change entry_pid pid (λ (x : Entry Task). with_value x (record e.value { regs = regs })) k.procs.entries)
        ≡ change pid_of e.pid (λ q. with_regs q regs) (map process_of k.procs.entries)
    procs_in =
        let same : e.pid ≡ pid = find_has entry_pid pid k.procs.entries e r.lives in
        ap (map process_of) (change_alike entry_pid pid (λ (x : Entry Task). with_value x (record e.value { regs = regs }))
        (λ (x : Entry Task). with_value x (record x.value { regs = regs })) k.procs.entries e r.lives refl)
        ∙ change_process pid (λ (x : Entry Task). with_value x (record x.value { regs = regs })) (λ q. with_regs q regs) k.procs.entries (λ x. refl)
        ∙ ap (λ (n : ℕ). change pid_of n (λ q. with_regs q regs) (map process_of k.procs.entries)) (sym same)

  -- ---- over its own bytes

  module _ (pages : ℕ) (reaches : Reaches Halt pages h table) where
    pub frozen_in : only (λ a. not (writable_in h.maps a)) (physical now) ≡ only (λ a. not (writable_in h.maps a)) (physical k.mem)
    frozen_in = subst (λ (w : ℕ → _). only (λ a. not (w a)) (physical now) ≡ only (λ a. not (w a)) (physical k.mem)) reaches.writes r.frozen

    -- copies are no writable bytes
    pub after_copies : CopiesHold k.regions now k.tree k.notes
    after_copies = copies_frozen k r.regular r.copies e.value.space h r.home now r.length frozen_in

    pub left : ran regs (private_bytes now h) done stop ≡ instructions count (writable_in h.maps) e.value.regs (private_bytes k.mem h)
    unfolding private_bytes
    left =
        subst (λ (w : ℕ → _). ran regs (only (own_in h.maps) (physical now)) done stop ≡ instructions count w e.value.regs (only (own_in h.maps) (physical k.mem))) reaches.writes
        (subst (λ (o : ℕ → _). ran regs (only o (physical now)) done stop ≡ instructions count (owns table true) e.value.regs (only o (physical k.mem))) reaches.reads r.leaves)

    module _ (a : About) where
      spaces_in : live_spaces now k.spaces ≡ change id_of e.value.space (λ l. with_own l (private_of now h)) (live_spaces k.mem k.spaces)
      spaces_in = sym (change_space (λ l. with_own l (private_of now h)) k.mem now k.spaces e.value.space h h r.home refl
          (others_keep k r.regular e.value.space h r.home now frozen_in)
          ∙ ap (live_spaces now) (set_kept k.spaces e.value.space (Some h) r.home))

      after_moved : world_of (later done a) (after k pid e.value regs now done) ≡ moved (world_of a k) (process_of e) regs (private_of now h) done
      unfolding world_of
      after_moved = rw (procs_in a, spaces_in) refl

      on : RanOn pid (world_of a k) (process_of e) (record { id = e.value.space; space = private_of k.mem h }) count (ran regs (private_bytes now h) done stop)
      on =
          let P : Ran → Type 0 = λ x. RanOn pid (world_of a k) (process_of e) (record { id = e.value.space; space = private_of k.mem h }) count x in
          subst P (sym left) (run_on pid count (world_of a k) (process_of e) (record { id = e.value.space; space = private_of k.mem h }) (lives_in a) (has_in a))

      pub after_leads : Leads pid (world_of a k) done (world_of (later done a) (after k pid e.value regs now done))
      after_leads = subst (λ (w : World). Leads pid (world_of a k) done w) (sym after_moved) on.0

      pub after_halts : Halts (world_of (later done a) (after k pid e.value regs now done)) pid count done stop
      after_halts = subst (λ (w : World). Halts w pid count done stop) (sym after_moved) on.1

pub halts_within : (w : World) (pid count done : ℕ) (stop : Stop) → Halts w pid count done stop → done ≤ count
halts_within w pid count done Next h = let e : done ≡ count = h in omega arith
halts_within w pid count done Call h = let less = h.0 in omega arith
halts_within w pid count done (Trap signal) h = let less = h.0 in omega arith
halts_within w pid count done (Refused access) h = let less = h.0 in omega arith

-- ---- as the code has it

-- what stands at the number of a space that lives
pub home_of : (spaces : List (Option Held)) (n : ℕ) (x : Option Held) (h : Held) → HasSpace spaces n → x ≡ get_or spaces n x → x ≡ Some h → slice_get spaces n ≡ Some (Some h)
home_of spaces n x h live at is =
    let found : get_or spaces n x ≡ Some live.held = get_or_from_slice_get spaces n (Some live.held) x live.there in
    live.there ∙ ap Some (sym found ∙ sym at ∙ is)

pub never_none : (spaces : List (Option Held)) (n : ℕ) (x : Option Held) → HasSpace spaces n → x ≡ get_or spaces n x → x ≡ None → ⊥
never_none spaces n x live at is =
    let found : get_or spaces n x ≡ Some live.held = get_or_from_slice_get spaces n (Some live.held) x live.there in
    let e : Some live.held ≡ None = sym found ∙ sym at ∙ is in cc

pub below : (spaces : List (Option Held)) (n : ℕ) → HasSpace spaces n → n < length spaces
below spaces n live = slice_get_within spaces n (Some live.held) live.there

-- a process runs in a space that lives
pub has_space : (k : Kept) (pid : ℕ) (task : Task) → Regular k → value_at k.procs pid ≡ Some task → HasSpace k.spaces task.space
has_space k pid task regular is =
    let e = entered k.procs pid task is in
    subst (λ (t : Task). HasSpace k.spaces t.space) e.value (regular.runs pid e.entry e.there)
