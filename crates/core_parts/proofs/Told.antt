-- What is told of a process is what the world says of it.
use Rattle.std.proofs.Common.{◌≡◌, ℕ, ◌+◌, ◌*◌, ◌%◌, ◌^◌, ◌<◌, ◌≤◌, Bool, true, false, ◌⊎◌, inl, inr, List, map, length, Option, Some, None, refl, sym, ap, ◌∙◌, arith}
use Rattle.std.specs.Prelude.{is_some, option_map, slice_get}
use Rattle.std.proofs.lemmas.Option.{slice_get_past}
use Rattle.byte_words.specs.ByteMap.{Bytes}
use Rattle.call_log.specs.Notes.{most_calls}
use Rattle.rv32im_step.specs.declared.regs.Regs.{Regs}
use Rattle.mmap_rules.specs.declared.page_owner.PageOwner.{PageOwner}
use Rattle.mmap_rules.specs.Space.{memory_base, own_in, writable_in}
use Rattle.mmap_rules.specs.Held.{Held}
use Rattle.mmap_rules.specs.Owners.{owns}
use Rattle.region_watch.specs.Private.{own_bytes}
use Rattle.region_watch.specs.declared.mode.Mode.TheVariants.{Halt}
use Rattle.vfork_exec.specs.declared.entry.Entry.{Entry}
use Rattle.vfork_exec.specs.Procs.{Listed, process, value_at, parent_at}
use Rattle.machine_world.specs.Ages.{kept_calls}
use Rattle.machine_world.specs.World.{Process}
use Rattle.kept_parts.specs.declared.task.Task.{Task}
use Rattle.kept_parts.specs.Kept.{Kept}
use Rattle.kept_parts.specs.Reach.{Reaches}
use Rattle.kept_parts.specs.Regular.{Regular, HasSpace}
use Rattle.kept_parts.specs.Stands.{About, private_bytes, private_of, process_of, world_of}
use Rattle.kept_parts.proofs.Common.FoundInWorld.{find_space, find_process}
use Rattle.kept_parts.proofs.Common.RunningProcess.{value_found, parent_found, pid_found}
use Rattle.kept_parts.proofs.Common.WholeMemory.{reached_bytes, reached_pages}
use Rattle.core_file.specs.Text.{CoreValue, SegmentValue, bytes_of}
use Rattle.core_world.specs.Segments.{kind, intervals, segment_of, segments}
use Rattle.core_world.specs.Cores.{core_at, core_for, core_in, load_in}
use Rattle.core_world.proofs.Found.{bytes_few}
use Rattle.core_world.proofs.Intervals.{few_in_all}
use Rattle.core_parts.specs.Tables.{kind_in}

none_found : (o : Option (Entry Task)) → is_some o ≡ false → o ≡ None
none_found None h = refl
none_found (Some e) h = absurd cc

-- a process with what is kept of it
record Entered (s : Listed Task) (pid : ℕ) : Type 0 where
  entry : Entry Task
  there : process s pid ≡ Some entry

entered : (s : Listed Task) (pid : ℕ) (task : Task) → value_at s pid ≡ Some task → Entered s pid
entered s pid task is = at (process s pid) refl is
  where
    at : (o : Option (Entry Task)) → process s pid ≡ o → option_map (λ (e : Entry Task). e.value) o ≡ Some task → Entered s pid
    at None there e = absurd cc
    at (Some entry) there e = record { entry = entry; there = there }

module _ (a : About) (k : Kept) (pid : ℕ) where
  -- no process of this number
  module _ (lives : Bool) (is : lives ≡ is_some (process k.procs pid)) (dead : lives ≡ false) where
    none_there : process k.procs pid ≡ None
    none_there = none_found (process k.procs pid) (sym is ∙ dead)

    pub core_none : (signal : ℕ) → None ≡ core_in (world_of a k) pid signal
    unfolding core_in world_of
    core_none signal = sym (ap (core_for (world_of a k) signal) (find_process pid k.procs.entries ∙ ap (option_map process_of) none_there))

    pub load_none : None ≡ load_in (world_of a k) pid
    unfolding load_in world_of
    load_none = sym (ap (option_map (λ (p : Process). p.space + 1)) (find_process pid k.procs.entries ∙ ap (option_map process_of) none_there))

  -- a process that lives
  module _ (task : Task) (is : value_at k.procs pid ≡ Some task) where
    e : Entered k.procs pid
    e = entered k.procs pid task is

    task_is : task ≡ e.entry.value
    task_is = value_found k.procs pid e.entry e.there task is

    pub load_some : Some (task.space + 1) ≡ load_in (world_of a k) pid
    unfolding load_in world_of
    load_some =
        ap (λ (t : Task). Some (t.space + 1)) task_is
        ∙ sym (ap (option_map (λ (p : Process). p.space + 1)) (find_process pid k.procs.entries ∙ ap (option_map process_of) e.there))

    module _ (h : Held) (home : slice_get k.spaces task.space ≡ Some (Some h)) (parent : ℕ) (by : parent_at k.procs pid ≡ Some parent) where
      home_is : slice_get k.spaces e.entry.value.space ≡ Some (Some h)
      home_is = ap (λ (t : Task). slice_get k.spaces t.space) (sym task_is) ∙ home

      world_core : (signal : ℕ) → core_in (world_of a k) pid signal
          ≡ Some (record { signal = signal; pid = e.entry.pid; parent = e.entry.parent; regs = e.entry.value.regs; segments = segments (length k.regions) (private_of k.mem h) })
      unfolding core_in world_of
      world_core signal =
          ap (core_for (world_of a k) signal) (find_process pid k.procs.entries ∙ ap (option_map process_of) e.there)
          ∙ ap (core_at (world_of a k) signal (process_of e.entry)) (find_space k.mem k.spaces e.entry.value.space h home_is)

      pub core_some : (signal : ℕ) (ss : List SegmentValue) → ss ≡ segments (length k.regions) (private_of k.mem h)
          → Some (record { signal = signal; pid = pid; parent = parent; regs = task.regs; segments = ss }) ≡ core_in (world_of a k) pid signal
      core_some signal ss same =
          let told : (pid parent : ℕ) (regs : Regs) (ss : List SegmentValue) → Option CoreValue =
          λ pid parent regs ss. Some (record { signal = signal; pid = pid; parent = parent; regs = regs; segments = ss }) in
          ap (λ (n : ℕ). told n parent task.regs ss) (pid_found k.procs pid e.entry e.there)
          ∙ ap (λ (n : ℕ). told e.entry.pid n task.regs ss) (parent_found k.procs pid e.entry e.there parent by)
          ∙ ap (λ (t : Task). told e.entry.pid e.entry.parent t.regs ss) task_is
          ∙ ap (λ (xs : List SegmentValue). told e.entry.pid e.entry.parent e.entry.value.regs xs) same
          ∙ sym (world_core signal)

-- the segments of the table are those of the space
pub segments_told : (k : Kept) (h : Held) (table : List PageOwner) → Reaches Halt (length k.regions) h table
    → map (segment_of (own_bytes table k.mem)) (intervals (kind_in table) memory_base (4096 * length table)) ≡ segments (length k.regions) (private_of k.mem h)
unfolding segments private_bytes
segments_told k h table r =
    ap (λ (m : Bytes). map (segment_of m) (intervals (kind_in table) memory_base (4096 * length table))) (reached_bytes Halt (length k.regions) h table k.mem r)
    ∙ ap (λ (own : ℕ → Bool). map (segment_of (private_bytes k.mem h)) (intervals (kind own (owns table true)) memory_base (4096 * length table))) r.reads
    ∙ ap (λ (writes : ℕ → Bool). map (segment_of (private_bytes k.mem h)) (intervals (kind (own_in h.maps) writes) memory_base (4096 * length table))) r.writes
    ∙ ap (λ (pages : ℕ). map (segment_of (private_bytes k.mem h)) (intervals (kind (own_in h.maps) (writable_in h.maps)) memory_base (4096 * pages))) r.long

-- a live process has a live space
has_space : (k : Kept) (pid : ℕ) (task : Task) → Regular k → value_at k.procs pid ≡ Some task → HasSpace k.spaces task.space
has_space k pid task regular is =
    let e = entered k.procs pid task is in
    let home = regular.runs pid e.entry e.there in
    record { held = home.held; there = ap (λ (t : Task). slice_get k.spaces t.space) (value_found k.procs pid e.entry e.there task is) ∙ home.there }

-- the numbers of load notes are few
load_fits : (k : Kept) → Regular k → (space : ℕ) (h : Held) → slice_get k.spaces space ≡ Some (Some h) → kept_calls k.notes ≤ most_calls → space + 1 < 2 ^ 32
load_fits k regular space h home few = elim (near space (length k.spaces)) [
  | inl below ↦ omega (arith, regular.loads)
  | inr past ↦ absurd (let none = sym home ∙ slice_get_past k.spaces space past in cc)
]
  where
    near : (i n : ℕ) → (i < n) ⊎ (n ≤ i)
    near i n = grind arith

-- ---- by the table of its space

module _ (a : About) (k : Kept) (pid : ℕ) (task : Task) (table : List PageOwner) (regular : Regular k) (is : value_at k.procs pid ≡ Some task)
    (each : (h : Held) → slice_get k.spaces task.space ≡ Some (Some h) → Reaches Halt (length k.regions) h table) where
  home : HasSpace k.spaces task.space
  home = has_space k pid task regular is

  reaches : Reaches Halt (length k.regions) home.held table
  reaches = each home.held home.there

  abbrev table_segments : List SegmentValue
  table_segments = map (segment_of (own_bytes table k.mem)) (intervals (kind_in table) memory_base (4096 * length table))

  pub core_told : (parent signal : ℕ) (ss : List SegmentValue) → parent_at k.procs pid ≡ Some parent → ss ≡ table_segments
      → Some (record { signal = signal; pid = pid; parent = parent; regs = task.regs; segments = ss }) ≡ core_in (world_of a k) pid signal
  core_told parent signal ss by same = core_some a k pid task is home.held home.there parent by signal ss (same ∙ segments_told k home.held table reaches)

  pub load_told : kept_calls k.notes ≤ most_calls → Some ((task.space + 1) % 4294967296) ≡ load_in (world_of a k) pid
  load_told few =
      let same : (task.space + 1) % 4294967296 ≡ task.space + 1 = omega (arith, load_fits k regular task.space home.held home.there few) in
      ap (λ (n : ℕ). Some n) same ∙ load_some a k pid task is

-- the table has an entry for each page of memory
pub told_paged : (k : Kept) (pid : ℕ) (task : Task) (table : List PageOwner) → Regular k → value_at k.procs pid ≡ Some task
    → ((h : Held) → slice_get k.spaces task.space ≡ Some (Some h) → Reaches Halt (length k.regions) h table) → length k.mem ≡ 4096 * length table
told_paged k pid task table regular is each =
    let home = has_space k pid task regular is in
    reached_pages Halt k home.held table regular (each home.held home.there)

-- the bytes of the segments are few
pub told_few : (mem : List ℕ) (table : List PageOwner) (ss : List SegmentValue) → length table ≤ 16384
    → ss ≡ map (segment_of (own_bytes table mem)) (intervals (kind_in table) memory_base (4096 * length table)) → length (bytes_of ss) ≤ 67108864
told_few mem table ss most is =
    let own = intervals (kind_in table) memory_base (4096 * length table) in
    omega (arith, ap (λ (xs : List SegmentValue). length (bytes_of xs)) is, bytes_few (own_bytes table mem) own, few_in_all (kind_in table) (4096 * length table) memory_base)
