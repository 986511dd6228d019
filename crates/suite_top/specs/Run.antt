-- The commands `run MANIFEST` and `trace MANIFEST`: the programs of a manifest run by turns in one memory.
use Rattle.std.specs.Prelude.{ℕ, List, [], ◌++◌, map, None, Result, Ok, Err}
use Rattle.page_runs.specs.declared.place.Kind.{Kind}
use Rattle.quantum_sched.specs.declared.Quantum.{Quantum}
use Rattle.manifest_text.specs.declared.manifest.Dump.{Dump}
use Rattle.manifest_text.specs.declared.manifest.WatchLine.{WatchLine}
use Rattle.manifest_text.specs.Values.{Start, Manifest}
use Rattle.manifest_text.specs.Manifest.{Fault, manifest_of}
use Rattle.machine_world.specs.World.{Rest, World}
use Rattle.machine_world.specs.Boot.{StartLine, BootFault, bad_start, args_too_big, no_run, boot}
use Rattle.machine_world.specs.Turns.{Walk, turns}
use Rattle.memory_world.specs.Physical.{Physical, WalkIn, turns_in, opening_in}
use Rattle.region_watch.specs.declared.mode.Mode.{Mode}
use Rattle.region_watch.specs.declared.mode.Mode.TheVariants.{Halt, GoOn}
use Rattle.flat_machine.specs.Runs.{repeated}
use Rattle.flat_machine.specs.Hits.{hits, hits_in_memory}
use Rattle.fd_tables.specs.Files.{nothing_open}
use Rattle.run_setup.specs.declared.fault.LineFault.TheVariants as line
use Rattle.run_setup.specs.Brought.{Brought, FaultAt, nothing_brought, all_brought}
use Rattle.file_commands.specs.Texts.Refusals.{manifest_tail}
use Rattle.file_commands.specs.Ending.{Ending, refused_ending}
use Rattle.file_commands.specs.Outcome.{Outcome, Inputs}
use Rattle.file_commands.specs.Load.{at_once, with_load}
use Rattle.file_commands.specs.Items.{files_limit, with_items}
use Rattle.file_commands.specs.Manifests.{manifest_limit, fault_ending}
use Rattle.suite_top.specs.KeptItems.{keep_of, kept_outcome}
use Rattle.suite_top.specs.Report.{own_dumps, memory_dumps}
use Rattle.suite_top.specs.Telling.{Telling, mode_of, placement_of, kept_of, watch_of, told_ending}
use Rattle.suite_top.specs.Watched.{watched_text}

-- ---- the machine

abbrev pub start_line : Start → StartLine
start_line s = record { line = s.line; args = s.args }

-- what no space holds, before the first program. The space of this load note is recorded, and none where it is 0
abbrev pub opening : (keep : ℕ) → Kind → Manifest → Brought → Rest
opening keep kind m b = record {
  pages = m.pages;
  kind = kind;
  programs = b.programs;
  tree = b.tree;
  files = nothing_open b.stdin;
  console = [];
  keep = keep;
}

-- why a start line is refused
abbrev pub boot_fault : BootFault → FaultAt
boot_fault (bad_start number) = record { line = number; fault = line.BadStart }
boot_fault (args_too_big number) = record { line = number; fault = line.E2big }
boot_fault (no_run number) = record { line = number; fault = line.NoRun }

-- what is told of the hits, if they are asked for
abbrev pub world_hits : Telling → List Quantum → List WatchLine → World → List ℕ
world_hits telling quanta watches w = watched_text (watch_of telling) watches (λ kind spans. hits kind spans quanta w)

abbrev pub memory_hits : Telling → List Quantum → List WatchLine → Physical → List ℕ
memory_hits telling quanta watches p = watched_text (watch_of telling) watches (λ kind spans. hits_in_memory kind spans quanta p)

-- behind the notes stands what is told of the hits, and then the dumps
abbrev pub walked_ending : Telling → (watched : List ℕ) → List Dump → Walk → Ending
walked_ending telling watched dumps walk = told_ending telling (watched ++ own_dumps walk.world dumps) walk.world walk.end

-- a run from the opening world
abbrev pub world_ending : Telling → List Quantum → List WatchLine → List Dump → World → Ending
world_ending telling quanta watches dumps w = walked_ending telling (world_hits telling quanta watches w) dumps (turns quanta w)

-- and one that goes on behind its first stray access, over the one memory
abbrev pub walked_on_ending : Telling → (watched : List ℕ) → List Dump → WalkIn → Ending
walked_on_ending telling watched dumps walk = told_ending telling (watched ++ memory_dumps walk.now dumps) walk.now.world walk.end

abbrev pub memory_run_ending : Telling → List Quantum → List WatchLine → List Dump → Physical → Ending
memory_run_ending telling quanta watches dumps p = walked_on_ending telling (memory_hits telling quanta watches p) dumps (turns_in quanta p)

abbrev pub mode_ending : Telling → Mode → List Quantum → List WatchLine → List Dump → (headers : List (List ℕ)) → World → Ending
mode_ending telling Halt quanta watches dumps headers w = world_ending telling quanta watches dumps w
mode_ending telling GoOn quanta watches dumps headers w = memory_run_ending telling quanta watches dumps (opening_in headers w)

-- the world in which it stopped
abbrev pub stopped_world : Mode → List Quantum → (headers : List (List ℕ)) → World → World
stopped_world Halt quanta headers w = (turns quanta w).world
stopped_world GoOn quanta headers w = (turns_in quanta (opening_in headers w)).now.world

-- the items are stored that it keeps, if it keeps any
abbrev pub mode_outcome : Telling → Mode → List Quantum → List WatchLine → List Dump → (headers : List (List ℕ)) → World → Outcome
mode_outcome telling mode quanta watches dumps headers w =
    kept_outcome (kept_of telling) (stopped_world mode quanta headers w) (mode_ending telling mode quanta watches dumps headers w)

-- ---- all in order

abbrev pub booted_outcome : Telling → Manifest → (headers : List (List ℕ)) → Result World BootFault → Outcome
booted_outcome telling m headers (Err first) = at_once (fault_ending (boot_fault first))
booted_outcome telling m headers (Ok w) = mode_outcome telling (mode_of telling) (repeated m.repeat m.quanta) m.watches m.dumps headers w

abbrev pub brought_outcome : Telling → Manifest → Result Brought FaultAt → Outcome
brought_outcome telling m (Err at) = at_once (fault_ending at)
brought_outcome telling m (Ok b) = booted_outcome telling m b.headers (boot (opening (keep_of (kept_of telling)) (placement_of telling) m b) (map start_line m.starts))

-- where the item lines' files are there
unfoldable pub files_outcome : Telling → Manifest → List (List ℕ) → Outcome
files_outcome telling m files = brought_outcome telling m (all_brought m.items files nothing_brought)

-- behind the manifest
abbrev pub items_outcome : Telling → Manifest → Inputs → Outcome
items_outcome telling m inputs = with_items files_limit m.items (files_outcome telling m) inputs

abbrev pub manifest_outcome : Telling → Result Manifest Fault → Inputs → Outcome
manifest_outcome telling (Err first) inputs = at_once (refused_ending (manifest_tail first.line first.fault))
manifest_outcome telling (Ok m) inputs = items_outcome telling m inputs

-- the manifest is load 0, and the files of its items are the loads behind it
unfoldable pub run_outcome : (name : List ℕ) → Telling → Inputs → Outcome
run_outcome name telling inputs = with_load manifest_limit None name (λ bytes. manifest_outcome telling (manifest_of bytes)) inputs
