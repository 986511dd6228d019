-- The world after one process went on, and after one is gone.
use Rattle.std.proofs.Common.{◌≡◌, ℕ, ◌+◌, Bool, true, false, List, map, length, Option, Some, None, refl, sym, ap, ◌∙◌}
use Rattle.std.specs.Prelude.{IsSome, if◌then◌else◌, slice_set, option_map}
use Rattle.std.proofs.lemmas.List.{length-set}
use Rattle.nommu_regions.specs.declared.region.Region.{Region}
use Rattle.mmap_rules.specs.Held.{Held}
use Rattle.rv32im_step.specs.declared.regs.Regs.{Regs}
use Rattle.call_log.specs.Notes.{Note}
use Rattle.vfork_exec.specs.declared.entry.Entry.{Entry}
use Rattle.vfork_exec.specs.Keyed.{change, without}
use Rattle.call_log.specs.declared.how.How.{How}
use Rattle.vfork_exec.specs.Procs.{Listed, process, Lives, with_value, with_value_at}
use Rattle.vfork_exec.specs.Procs.{pid_of as entry_pid, borrows as entry_borrows}
use Rattle.vfork_exec.proofs.Keyed.{find_changed}
use Rattle.mem_files.specs.Inodes.{Inodes}
use Rattle.fd_tables.specs.Files.{OpenFiles}
use Rattle.file_calls.specs.Calls.{with_all}
use Rattle.machine_world.specs.World.{Process, LiveSpace, Recording, World, pid_of, id_of}
use Rattle.machine_world.specs.Families.{borrows, spaces_left}
use Rattle.machine_world.specs.Event.{with_space, departed}
use Rattle.kept_parts.specs.declared.task.Task.{Task}
use Rattle.kept_parts.specs.Kept.{Kept}
use Rattle.kept_parts.specs.Gone.{space_left, ended, gone}
use Rattle.kept_parts.specs.Stands.{About, later, private_of, live_spaces, process_of, world_of, OthersSame}
use Rattle.kept_parts.specs.Calls.{LivesIn, with_task}
use Rattle.kept_parts.proofs.Common.FoundInWorld.{change_space, without_space}
use Rattle.kept_parts.proofs.Common.ProcessList.{moved_is, left_is, borrows_is, dead_ended}
use Rattle.kept_parts.proofs.Common.RunningProcess.{pid_found}
use Rattle.kept_parts.proofs.Ends.RegularWithout.{length_released, gone_procs}

-- worlds by their parts
same_world : (ps qs : List Process) (ss ts : List LiveSpace) (m n pages more : ℕ) (ns ms : List Note) (w : World) →
    ps ≡ qs → ss ≡ ts → m ≡ n → pages ≡ more → ns ≡ ms →
    record w { procs = ps; spaces = ss; loads = m; rest = record w.rest { pages = pages }; notes = ns }
    ≡ record w { procs = qs; spaces = ts; loads = n; rest = record w.rest { pages = more }; notes = ms }
same_world ps qs ss ts m n pages more ns ms w p s l g t = λ i. record w { procs = p i; spaces = s i; loads = l i; rest = record w.rest { pages = g i }; notes = t i }

module _ (k : Kept) (pid : ℕ) (e : Entry Task) (h : Held) (runs : LivesIn k pid e h) where
  -- ---- a process goes on

  module _ (regs : Regs) (g : Held) (now : List ℕ) where
    abbrev value : Task
    value = record e.value { regs = regs }

    procs_moved : map process_of (with_value_at k.procs pid value).entries ≡ change pid_of e.pid (λ (q : Process). record q { regs = regs }) (map process_of k.procs.entries)
    procs_moved = moved_is k.procs pid e runs.lives regs ∙ ap (λ n. change pid_of n (λ (q : Process). record q { regs = regs }) (map process_of k.procs.entries)) (pid_found k.procs pid e runs.lives)

    spaces_moved : OthersSame k e.value.space now →
        live_spaces now (slice_set k.spaces e.value.space (Some g))
        ≡ change id_of e.value.space (λ (s : LiveSpace). record s { space = private_of now g }) (live_spaces k.mem k.spaces)
    spaces_moved others =
        sym (change_space (λ (s : LiveSpace). record s { space = private_of now g }) k.mem now k.spaces e.value.space h g runs.home refl others)

    -- and with other notes, more events, and as many regions, whatever their ids
    pub moved_world : OthersSame k e.value.space now → (rs : List Region) → length rs ≡ length k.regions → (starts : List ℕ) →
        (a : About) (n : ℕ) (notes : List Note) (tree : Inodes) (files : OpenFiles) (console : List ℕ) →
        world_of (later n a) (record (with_task k pid e g now regs) { regions = rs; starts = starts; notes = notes; tree = tree; files = files; console = console })
        ≡ record (with_space (record (world_of a k) { rest = with_all (world_of a k).rest tree files console }) (process_of e) regs (private_of now g)) { notes = notes; events = a.events + n }
    unfolding world_of
    moved_world others rs pages starts a n notes tree files console =
        same_world _ _ _ _ _ _ (length rs) (length k.regions) notes notes (world_of (later n a) (record k { tree = tree; files = files; console = console }))
        procs_moved (spaces_moved others) (length-set k.spaces e.value.space (Some g)) pages refl

    pub moved_lives : Lives (with_value_at k.procs pid value) pid
    moved_lives = some_lives (process (with_value_at k.procs pid value) pid) (with_value e value)
        (find_changed entry_pid pid (λ (x : Entry Task). with_value x value) (λ x. refl) k.procs.entries ∙ ap (option_map (λ (x : Entry Task). with_value x value)) runs.lives)
      where
        some_lives : (o : Option (Entry Task)) (x : Entry Task) → o ≡ Some x → IsSome o
        some_lives (Some y) x is = refl
        some_lives None x is = absurd cc

  -- ---- a process is gone

  module _ (how : How) where
    -- and its space, if no other one lent it
    left_world : (lent : Bool) (a : About) (n : ℕ) (notes : List Note) (recording : Recording) → recording.keep ≡ k.recording.keep →
        world_of (later n a) (record (space_left (ended k e how) lent e.value.space h) { notes = notes; recording = recording })
        ≡ record (departed (world_of a k) (process_of e) how) {
          spaces = if lent then live_spaces k.mem k.spaces else without id_of e.value.space (live_spaces k.mem k.spaces);
          notes = notes;
          events = a.events + n;
          recording = recording;
        }
    unfolding world_of
    left_world true a n notes recording keep = λ i. record (departed (world_of a k) (process_of e) how) {
      procs = left_is k.procs e how i;
      spaces = live_spaces k.mem k.spaces;
      rest = record (departed (world_of a k) (process_of e) how).rest { keep = keep i };
      notes = notes;
      events = a.events + n;
      recording = recording;
    }
    left_world false a n notes recording keep = λ i. record (departed (world_of a k) (process_of e) how) {
      procs = left_is k.procs e how i;
      spaces = sym (without_space k.mem k.spaces e.value.space h runs.home) i;
      loads = length-set k.spaces e.value.space None i;
      rest = record (departed (world_of a k) (process_of e) how).rest { pages = length_released k.regions h.maps i; keep = keep i };
      notes = notes;
      events = a.events + n;
      recording = recording;
    }

    lent_world : (a : About) (n : ℕ) (notes : List Note) (recording : Recording) (lent : Bool) → borrows (process_of e) (map process_of k.procs.entries) ≡ lent →
        record (departed (world_of a k) (process_of e) how) {
          spaces = if lent then live_spaces k.mem k.spaces else without id_of e.value.space (live_spaces k.mem k.spaces);
          notes = notes;
          events = a.events + n;
          recording = recording;
        }
        ≡ record (departed (world_of a k) (process_of e) how) { notes = notes; events = a.events + n; recording = recording }
    unfolding world_of spaces_left
    lent_world a n notes recording lent is = ap (λ (b : Bool). record (departed (world_of a k) (process_of e) how) {
      spaces = if b then live_spaces k.mem k.spaces else without id_of e.value.space (live_spaces k.mem k.spaces);
      notes = notes;
      events = a.events + n;
      recording = recording;
    }) (sym is)

    pub gone_world : (a : About) (n : ℕ) (notes : List Note) (recording : Recording) → recording.keep ≡ k.recording.keep →
        world_of (later n a) (record (gone k e h how) { notes = notes; recording = recording })
        ≡ record (departed (world_of a k) (process_of e) how) { notes = notes; events = a.events + n; recording = recording }
    gone_world a n notes recording keep = left_world (entry_borrows k.procs e.pid) a n notes recording keep ∙ lent_world a n notes recording (entry_borrows k.procs e.pid) (borrows_is k.procs e)

    pub gone_dead : process (gone k e h how).procs pid ≡ None
    gone_dead = ap (λ (s : Listed Task). process s pid) (gone_procs k e h how) ∙ dead_ended k.procs pid e runs.lives how
