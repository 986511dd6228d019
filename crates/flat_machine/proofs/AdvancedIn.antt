-- The one memory after instructions of one process.
use Rattle.std.proofs.Common.{◌*◌, ◌≡◌, ℕ, ◌≤◌, Bool, true, false, not, List, [], length, map, Option, Some, None, refl, sym, ap, subst, ◌∙◌, get_or, arith}
use Rattle.std.specs.Prelude.{slice_get, option_map, if◌then◌else◌}
use Rattle.std.proofs.lemmas.Bool.{false≢true}
use Rattle.std.proofs.lemmas.Option.{same_Some}
use Rattle.byte_words.specs.ByteMap.{Bytes}
use Rattle.rv32im_step.specs.declared.regs.Regs.{Regs}
use Rattle.rv32im_step.specs.declared.stop.Stop.{Stop}
use Rattle.rv32im_step.specs.declared.stop.Stop.TheVariants.{Next, Call, Trap, Refused}
use Rattle.mmap_rules.specs.declared.mapping.Mapping.{Mapping}
use Rattle.mmap_rules.specs.declared.page_owner.PageOwner.{PageOwner}
use Rattle.mmap_rules.specs.Owners.{owns}
use Rattle.mmap_rules.specs.Space.{own_in, writable_in}
use Rattle.mmap_rules.specs.Held.{Held}
use Rattle.region_watch.specs.declared.mode.Mode.{Mode}
use Rattle.region_watch.specs.Private.{only, physical, own_bytes, in_pages, passes, passed_bytes, kept_bytes}
use Rattle.region_watch.proofs.Accesses.{all_pages}
use Rattle.region_watch.specs.Instructions.{ran, instructions}
use Rattle.vfork_exec.specs.declared.entry.Entry.{Entry}
use Rattle.vfork_exec.specs.Keyed.{find, change}
use Rattle.vfork_exec.specs.Procs.{value_at, CanRun, with_value}
use Rattle.vfork_exec.specs.Procs.{pid_of as entry_pid}
use Rattle.vfork_exec.proofs.Keyed.{find_changed}
use Rattle.machine_world.specs.World.{Process, LiveSpace, World, pid_of, id_of}
use Rattle.machine_world.specs.Courses.{Leads, StandsAt, Halts}
use Rattle.machine_world.proofs.States.{change_same, with_own}
use Rattle.memory_world.specs.Physical.{Physical, in_memory, shown_space, moved_in, has_stray}
use Rattle.memory_world.specs.Wider.{IsWithin, Grows}
use Rattle.memory_world.specs.Courses.{LeadsIn, IsShown, StandsIn, HaltsIn}
use Rattle.memory_world.proofs.StepsIn.{own_instructions_lead, whole_instructions_lead}
use Rattle.memory_world.proofs.Moves.{calls_in, traps_in}
use Rattle.kept_parts.specs.declared.task.Task.{Task}
use Rattle.region_watch.specs.declared.mode.Mode.TheVariants.{Halt, GoOn}
use Rattle.kept_parts.specs.Kept.{Kept}
use Rattle.kept_parts.specs.Reach.{Reaches}
use Rattle.kept_parts.specs.Regular.{Regular, HasSpace, IsRegular}
use Rattle.kept_parts.specs.Copies.{CopiesHold}
use Rattle.kept_parts.specs.Stands.{About, later, private_bytes, private_of, live_spaces, process_of, world_of}
use Rattle.kept_parts.specs.InMemory.{physical_of}
use Rattle.kept_parts.proofs.Common.ShownBytes.{shown_as, shows}
use Rattle.kept_parts.proofs.Common.FoundInWorld.{find_space, find_process}
use Rattle.flat_machine.specs.State.{is_whole}
use Rattle.flat_machine.specs.LeavesIn.{HaltsWithin}
use Rattle.kept_parts.proofs.Common.AnyRun.{some_about}
use Rattle.flat_machine.proofs.Within.{writable_own, table_inside}
use Rattle.flat_machine.proofs.Passed.{AsTable, as_table, owned_ran, owned_frozen}
use Rattle.flat_machine.proofs.Advanced.{Ranged, after, entered, home_of, has_space, halts_within, after_regular, after_ready, lives_in, has_in, procs_in, frozen_in, after_copies, left, after_leads, after_halts}

-- the addresses of memory are those of its pages
pub in_memory_is : (headers : List (List ℕ)) (a : About) (k : Kept) → in_memory (physical_of headers a k).world ≡ in_pages (length k.regions)
unfolding physical_of world_of
in_memory_is headers a k = refl

-- its spaces show it
pub shown_of : (headers : List (List ℕ)) (a : About) (k : Kept) → IsShown (physical_of headers a k)
unfolding physical_of
shown_of headers a k = shows a k

module _ (headers : List (List ℕ)) (a : About) (k : Kept) (pid count : ℕ) (e : Entry Task) (h : Held) (table : List PageOwner) (now : List ℕ) (regs : Regs) (done : ℕ) (stop : Stop)
    (r : Ranged k pid count e h table now regs done stop) where
  abbrev found : LiveSpace
  found = record { id = e.value.space; space = private_of k.mem h }

  abbrev old : Physical
  old = physical_of headers a k

  abbrev new : Physical
  new = physical_of headers (later done a) (after k pid e.value regs now done)

  pub lives_old : find pid_of pid old.world.procs ≡ Some (process_of e)
  unfolding physical_of
  lives_old = lives_in k pid count e h table now regs done stop r a

  pub has_old : find id_of e.value.space old.world.spaces ≡ Some found
  unfolding physical_of
  has_old = has_in k pid count e h table now regs done stop r a

  spaces_shown : map (shown_space (physical now)) (change id_of e.value.space (λ l. with_own l (private_of k.mem h)) (live_spaces k.mem k.spaces)) ≡ live_spaces now k.spaces
  unfolding world_of
  spaces_shown =
      ap (map (shown_space (physical now)))
      (change_same id_of e.value.space (λ l. with_own l (private_of k.mem h)) (live_spaces k.mem k.spaces) found (has_in k pid count e h table now regs done stop r a) refl)
      ∙ shown_as k.mem now k.spaces

  moved_on : moved_in old (process_of e) (private_of k.mem h) regs (physical now) done ≡ new
  unfolding physical_of world_of
  moved_on = rw (spaces_shown, procs_in k pid count e h table now regs done stop r a) refl

  leads_to : LeadsIn pid old done (moved_in old (process_of e) (private_of k.mem h) regs (physical now) done) → LeadsIn pid old done new
  leads_to x = subst (λ (p : Physical). LeadsIn pid old done p) moved_on x

  -- ---- over its own bytes

  module _ (reaches : Reaches Halt (length k.regions) h table) where
    pub may_inside : IsWithin (in_pages (length k.regions)) (writable_in h.maps)
    may_inside =
        subst (λ (w : ℕ → Bool). IsWithin (in_pages (length k.regions)) w) reaches.writes
        (subst (λ (n : ℕ). IsWithin (in_pages n) (owns table true)) reaches.long (table_inside table true))

    rest_same : (at : ℕ) → writable_in h.maps at ≡ false → physical now at ≡ physical k.mem at
    unfolding only
    rest_same at locked = cut (writable_in h.maps at) locked (ap (λ (m : Bytes). m at) (frozen_in k pid count e h table now regs done stop r (length k.regions) reaches))
      where
        cut : (b : Bool) → b ≡ false → (if not b then physical now at else None) ≡ (if not b then physical k.mem at else None) → physical now at ≡ physical k.mem at
        cut true is same = absurd (false≢true (sym is))
        cut false is same = same

    grows : Grows (own_in h.maps) (writable_in h.maps) old.memory (private_bytes now h) (physical now)
    unfolding physical_of private_bytes
    grows = record { seen = refl; rest = rest_same }

    pub own_leads_in : LeadsIn pid old done new
    unfolding physical_of private_bytes
    own_leads_in = leads_to
        (own_instructions_lead count pid old (process_of e) found (ran regs (private_bytes now h) done stop) (physical now) (shown_of headers a k) lives_old has_old
        (writable_own h.maps) (subst (λ (m : ℕ → Bool). IsWithin m (writable_in h.maps)) (sym (in_memory_is headers a k)) may_inside)
        (left k pid count e h table now regs done stop r (length k.regions) reaches) grows)

  -- ---- over all of memory

  module _ (reaches : Reaches GoOn (length k.regions) h table) (strayed : has_stray k.notes ≡ true) where
    pub whole_read : (mem : List ℕ) → length mem ≡ 4096 * length k.regions → own_bytes table mem ≡ physical mem
    whole_read mem paged = ap (λ (test : ℕ → Bool). only test (physical mem)) reaches.reads ∙ all_pages (length k.regions) mem paged

    pub whole_ran : ran regs (physical now) done stop ≡ instructions count (in_memory old.world) e.value.regs old.memory
    unfolding physical_of
    whole_ran =
        let was = whole_read k.mem r.regular.memory in
        let is = whole_read now (r.length ∙ r.regular.memory) in
        let mays = reaches.writes ∙ sym (in_memory_is headers a k) in
        rw (← is, ← was, ← mays) r.leaves

    strays_noted : has_stray old.world.notes ≡ true
    unfolding physical_of world_of
    strays_noted = strayed

    both_in : LeadsIn pid old done (moved_in old (process_of e) (private_of k.mem h) regs (physical now) done)
        × HaltsIn (moved_in old (process_of e) (private_of k.mem h) regs (physical now) done) pid count done stop
    both_in =
        whole_instructions_lead count pid old (process_of e) found (ran regs (physical now) done stop) (shown_of headers a k) lives_old has_old strays_noted whole_ran

    pub whole_leads_in : LeadsIn pid old done new
    whole_leads_in = leads_to both_in.0

    pub whole_halts_in : HaltsIn new pid count done stop
    whole_halts_in = subst (λ (p : Physical). HaltsIn p pid count done stop) moved_on both_in.1

-- ---- where the process stands behind them

module _ (k : Kept) (pid count : ℕ) (e : Entry Task) (h : Held) (table : List PageOwner) (now : List ℕ) (regs : Regs) (done : ℕ) (stop : Stop)
    (r : Ranged k pid count e h table now regs done stop) (reaches : Reaches Halt (length k.regions) h table) (headers : List (List ℕ)) (a : About) where
  abbrev left_kept : Kept
  left_kept = after k pid e.value regs now done

  abbrev left_world : World
  left_world = world_of (later done a) left_kept

  abbrev left_in : Physical
  left_in = physical_of headers (later done a) left_kept

  lives_new : find pid_of pid left_world.procs ≡ Some (process_of (with_value e (record e.value { regs = regs })))
  unfolding world_of
  lives_new =
      let value : Task = record e.value { regs = regs } in
      find_process pid left_kept.procs.entries
      ∙ ap (option_map process_of) (find_changed entry_pid pid (λ (x : Entry Task). with_value x value) (λ x. refl) k.procs.entries ∙ ap (option_map (λ (x : Entry Task). with_value x value)) r.lives)

  has_new : find id_of e.value.space left_world.spaces ≡ Some (record { id = e.value.space; space = private_of now h })
  unfolding world_of
  has_new = find_space now k.spaces e.value.space h r.home

  maps_are : (q : Process) (s : LiveSpace) → find pid_of pid left_world.procs ≡ Some q → find id_of q.space left_world.spaces ≡ Some s → s.space.maps ≡ h.maps
  maps_are q s lives has =
      let same : q ≡ process_of (with_value e (record e.value { regs = regs })) = same_Some _ _ (sym lives ∙ lives_new) in
      let there : s ≡ record { id = e.value.space; space = private_of now h } =
      same_Some _ _ (sym has ∙ ap (λ (p : Process). find id_of p.space left_world.spaces) same ∙ has_new) in
      ap (λ (l : LiveSpace). l.space.maps) there

  inside_of : (q : Process) (s : LiveSpace) → find pid_of pid left_world.procs ≡ Some q → find id_of q.space left_world.spaces ≡ Some s
      → IsWithin (in_memory left_in.world) (writable_in s.space.maps)
  inside_of q s lives has =
      subst (λ (maps : List Mapping). IsWithin (in_memory left_in.world) (writable_in maps)) (sym (maps_are q s lives has))
      (subst (λ (m : ℕ → Bool). IsWithin m (writable_in h.maps)) (sym (in_memory_is headers (later done a) left_kept))
      (may_inside headers a k pid count e h table now regs done stop r reaches))

  calls_new : StandsAt left_world pid Call → StandsIn left_in pid Call
  unfolding physical_of
  calls_new s = record {
    process = s.process;
    space = s.space;
    lives = s.lives;
    has = s.has;
    means = calls_in left_in pid s.process s.space s.lives s.has (shown_of headers (later done a) left_kept) (writable_own s.space.space.maps) (inside_of s.process s.space s.lives s.has) s.means;
  }

  traps_new : (signal : ℕ) → StandsAt left_world pid (Trap signal) → StandsIn left_in pid (Trap signal)
  unfolding physical_of
  traps_new signal s = record {
    process = s.process;
    space = s.space;
    lives = s.lives;
    has = s.has;
    means = traps_in left_in pid s.process s.space s.lives s.has (shown_of headers (later done a) left_kept) (writable_own s.space.space.maps) (inside_of s.process s.space s.lives s.has) signal s.means;
  }

  pub own_halts_in : HaltsWithin Halt left_in pid count done stop
  own_halts_in = by stop (after_halts k pid count e h table now regs done stop r (length k.regions) reaches a)
    where
      by : (s : Stop) → Halts left_world pid count done s → HaltsWithin Halt left_in pid count done s
      by Next halts = halts
      by Call halts = (halts.0, calls_new halts.1)
      by (Trap signal) halts = (halts.0, traps_new signal halts.1)
      by (Refused access) halts = (halts.0, tt)

whole_halts : (p : Physical) (pid count done : ℕ) (stop : Stop) → HaltsIn p pid count done stop → HaltsWithin GoOn p pid count done stop
whole_halts p pid count done Next halts = halts
whole_halts p pid count done Call halts = halts
whole_halts p pid count done (Trap signal) halts = halts
whole_halts p pid count done (Refused access) halts = halts

halts_in_within : (p : Physical) (pid count done : ℕ) (stop : Stop) → HaltsIn p pid count done stop → done ≤ count
halts_in_within p pid count done Next h = let e : done ≡ count = h in omega arith
halts_in_within p pid count done Call h = let less = h.0 in omega arith
halts_in_within p pid count done (Trap signal) h = let less = h.0 in omega arith
halts_in_within p pid count done (Refused access) h = let less = h.0 in omega arith

-- ---- up to so many instructions of a process

pub record Advances (reach : Mode) (k now : Kept) (pid count done : ℕ) (stop : Stop) : Type 0 where
  pub regular : IsRegular now
  pub ready : CanRun now.procs pid
  pub within : done ≤ count
  pub leads : reach ≡ Halt → (a : About) → Leads pid (world_of a k) done (world_of (later done a) now)
  pub halts : reach ≡ Halt → (a : About) → Halts (world_of (later done a) now) pid count done stop
  pub leads_in : (headers : List (List ℕ)) (a : About) → LeadsIn pid (physical_of headers a k) done (physical_of headers (later done a) now)
  pub halts_in : (headers : List (List ℕ)) (a : About) → HaltsWithin reach (physical_of headers (later done a) now) pid count done stop

whole_copies : (k : Kept) (now : List ℕ) → CopiesHold k.regions k.mem k.tree k.notes → has_stray k.notes ≡ true → CopiesHold k.regions now k.tree k.notes
whole_copies k now copies strayed = record {
  hold = λ unstrayed. absurd (false≢true (sym unstrayed ∙ strayed));
  known = copies.known;
  changes = copies.changes;
  uses = copies.uses;
}

advances_in : (reach : Mode) (k : Kept) (pid count : ℕ) (e : Entry Task) (h : Held) (table : List PageOwner) (now : List ℕ) (regs : Regs) (done : ℕ) (stop : Stop)
    → Ranged k pid count e h table now regs done stop → Reaches reach (length k.regions) h table → has_stray k.notes ≡ is_whole reach → CanRun k.procs pid
    → Advances reach k (after k pid e.value regs now done) pid count done stop
advances_in Halt k pid count e h table now regs done stop r reaches strayed ready = record {
  regular = (after_regular k pid count e h table now regs done stop r, after_copies k pid count e h table now regs done stop r (length k.regions) reaches);
  ready = after_ready k pid count e h table now regs done stop r ready;
  within = halts_within (world_of (later done some_about) (after k pid e.value regs now done)) pid count done stop
      (after_halts k pid count e h table now regs done stop r (length k.regions) reaches some_about);
  leads = λ own. after_leads k pid count e h table now regs done stop r (length k.regions) reaches;
  halts = λ own. after_halts k pid count e h table now regs done stop r (length k.regions) reaches;
  leads_in = λ headers a. own_leads_in headers a k pid count e h table now regs done stop r reaches;
  halts_in = λ headers a. own_halts_in k pid count e h table now regs done stop r reaches headers a;
}
advances_in GoOn k pid count e h table now regs done stop r reaches strayed ready = record {
  regular = (after_regular k pid count e h table now regs done stop r, whole_copies k now r.copies strayed);
  ready = after_ready k pid count e h table now regs done stop r ready;
  within = halts_in_within (physical_of [] (later done some_about) (after k pid e.value regs now done)) pid count done stop
      (whole_halts_in [] some_about k pid count e h table now regs done stop r reaches strayed);
  leads = λ own. absurd cc;
  halts = λ own. absurd cc;
  leads_in = λ headers a. whole_leads_in headers a k pid count e h table now regs done stop r reaches strayed;
  halts_in = λ headers a. whole_halts (physical_of headers (later done a) (after k pid e.value regs now done)) pid count done stop
      (whole_halts_in headers a k pid count e h table now regs done stop r reaches strayed);
}

-- ---- as the code has it

-- the table of a space has an entry for each page
space_long : (k : Kept) (n : ℕ) (x : Option Held) (h : Held) (table : List PageOwner) → Regular k → HasSpace k.spaces n → x ≡ get_or k.spaces n x → x ≡ Some h → length table ≡ h.pages
    → length table ≡ length k.regions
space_long k n x h table regular live at space long = long ∙ regular.pages n h (home_of k.spaces n x h live at space)

pub space_paged : (k : Kept) (pid : ℕ) (task : Task) (x : Option Held) (h : Held) (table : List PageOwner) → Regular k → value_at k.procs pid ≡ Some task → x ≡ get_or k.spaces task.space x → x ≡ Some h
    → length table ≡ h.pages → length k.mem ≡ 4096 * length table
space_paged k pid task x h table regular is at space long =
    omega (arith, space_long k task.space x h table regular (has_space k pid task regular is) at space long, regular.memory)

-- a table of just the bytes within reach, and what the instructions leave by it
pub record ByTable (reach : Mode) (k : Kept) (pid count : ℕ) (task : Task) (h : Held) (mode : Mode) (table : List PageOwner) (now : List ℕ) (regs : Regs) (done : ℕ) (stop : Stop) : Type 0 where
  pub entry : Entry Task
  pub value : entry.value ≡ task
  pub passed : AsTable reach (length k.regions) h mode table
  pub ranged : Ranged k pid count entry h passed.table now regs done stop

pub by_table : (reach : Mode) (k : Kept) (pid count : ℕ) (task : Task) (x : Option Held) (h : Held) (mode : Mode) (table seen : List PageOwner) (was now : List ℕ) (regs : Regs) (done : ℕ) (stop : Stop)
    → IsRegular k → value_at k.procs pid ≡ Some task → x ≡ get_or k.spaces task.space x → x ≡ Some h
    → owns table false ≡ own_in h.maps → owns table true ≡ writable_in h.maps → length table ≡ h.pages → mode ≡ reach → seen ≡ table → was ≡ k.mem
    → ran regs (passed_bytes mode seen now) done stop ≡ instructions count (passes mode seen true) task.regs (passed_bytes mode seen was)
    → kept_bytes mode seen now ≡ kept_bytes mode seen was → length now ≡ length was → ByTable reach k pid count task h mode table now regs done stop
by_table reach k pid count task x h mode table seen was now regs done stop regular is at space own writes long within sees before leaves same stays =
    let e = entered k.procs pid task is in
    let live = has_space k pid task regular.0 is in
    let home = home_of k.spaces task.space x h live at space in
    let paged = space_long k task.space x h table regular.0 live at space long in
    let passed = as_table reach (length k.regions) h mode table within (record { reads = own; writes = writes; long = paged }) in
    record {
      entry = e.entry;
      value = e.value;
      passed = passed;
      ranged = record {
        regular = regular.0;
        copies = regular.1;
        lives = e.there;
        home = subst (λ (t : Task). slice_get k.spaces t.space ≡ Some (Some h)) (sym e.value) home;
        leaves = owned_ran reach (length k.regions) h mode table passed k.mem now count e.entry.value.regs regs done stop
            (subst (λ (t : Task). ran regs (passed_bytes mode table now) done stop ≡ instructions count (passes mode table true) t.regs (passed_bytes mode table k.mem)) (sym e.value)
            (rw (sees, before) at leaves));
        frozen = owned_frozen reach (length k.regions) h mode table passed k.mem now (rw (sees, before) at same);
        length = rw before at stays;
      };
    }

pub advances : (reach : Mode) (k : Kept) (pid count : ℕ) (task : Task) (x : Option Held) (h : Held) (mode : Mode) (table seen : List PageOwner) (was now : List ℕ) (regs : Regs) (done : ℕ) (stop : Stop)
    → IsRegular k → CanRun k.procs pid → has_stray k.notes ≡ is_whole reach → value_at k.procs pid ≡ Some task → x ≡ get_or k.spaces task.space x → x ≡ Some h
    → owns table false ≡ own_in h.maps → owns table true ≡ writable_in h.maps → length table ≡ h.pages → mode ≡ reach → seen ≡ table → was ≡ k.mem
    → ran regs (passed_bytes mode seen now) done stop ≡ instructions count (passes mode seen true) task.regs (passed_bytes mode seen was)
    → kept_bytes mode seen now ≡ kept_bytes mode seen was → length now ≡ length was → Advances reach k (after k pid task regs now done) pid count done stop
advances reach k pid count task x h mode table seen was now regs done stop regular ready strayed is at space own writes long within sees before leaves same stays =
    let t = by_table reach k pid count task x h mode table seen was now regs done stop regular is at space own writes long within sees before leaves same stays in
    subst (λ (v : Task). Advances reach k (after k pid v regs now done) pid count done stop) t.value
    (advances_in reach k pid count t.entry h t.passed.table now regs done stop t.ranged t.passed.reaches strayed ready)
