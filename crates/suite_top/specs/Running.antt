-- For private functions only: a machine's run by the lines of its manifest.
use Rattle.std.specs.Prelude.{◌≡◌, ◌+◌, ◌*◌, ◌^◌, ◌<◌, false, length, List, sum_by, Result, IfOk}
use Rattle.std.specs.declared.alloc.AllocError.{AllocError}
use Rattle.page_runs.specs.declared.place.Kind.{Kind}
use Rattle.quantum_sched.specs.declared.Quantum.{Quantum}
use Rattle.manifest_text.specs.Values.{manifest_value}
use Rattle.manifest_text.specs.Laws.{AreWatches, Reasonable}
use Rattle.region_watch.specs.declared.mode.Mode.TheVariants.{Halt, GoOn}
use Rattle.machine_world.specs.World.{World}
use Rattle.machine_world.specs.Turns.{turns}
use Rattle.memory_world.specs.Physical.{turns_in, has_stray}
use Rattle.flat_machine.specs.State.{State, world, one_memory}
use Rattle.flat_machine.specs.Runs.{repeated}
use Rattle.file_commands.specs.declared.answer.Answer.{Answer}
use Rattle.file_commands.specs.Ending.{Ending}
use Rattle.suite_top.specs.declared.course.Course.{Course}
use Rattle.suite_top.specs.declared.loaded.Loaded.{Loaded}
use Rattle.suite_top.specs.Run.{world_ending, memory_run_ending}
use Rattle.suite_top.specs.Telling.{Telling, ending_behind}

-- what was read is in the bounds of a manifest, and each item line has its file
pub record IsLoaded (l : Loaded) : Type 0 where
  pub manifest : Reasonable (manifest_value l.manifest)
  pub files : length l.files.items ≡ length l.manifest.items.items

-- its turns
abbrev pub turns_of : Course → List Quantum
turns_of c = repeated c.repeat c.quanta.items

-- their events can be counted
abbrev pub IsCounted : Course → State → Type 0
IsCounted c s = s.events + c.repeat * sum_by (λ q. q.count) c.quanta.items < 2 ^ 64

-- a machine that stopped in this world, and the answer that tells of it behind its console
pub record Stopped (ending : Ending) (w : World) (s : State) (answer : Answer) : Type 0 where
  pub tells : ending_behind (world s).rest.console answer ≡ ending
  pub stands : world s ≡ w

-- a machine that stands before its first turn, and chooses runs as it is asked to
pub record IsReady (asked : Kind) (c : Course) (s : State) : Type 0 where
  pub kind : asked ≡ s.kind
  pub events : IsCounted c s
  pub quiet : has_stray (world s).notes ≡ false
  pub watches : AreWatches c.watches.items

-- what is told behind the turns
abbrev pub TellsHalting : Telling → Course → (old new : State) → Result Answer AllocError → Type 0
TellsHalting telling c old new result =
    old.mode ≡ Halt → IfOk result (Stopped (world_ending telling (turns_of c) c.watches.items c.dumps.items (world old)) (turns (turns_of c) (world old)).world new)

abbrev pub TellsGoingOn : Telling → Course → (old new : State) → Result Answer AllocError → Type 0
TellsGoingOn telling c old new result =
    old.mode ≡ GoOn → IfOk result (Stopped (memory_run_ending telling (turns_of c) c.watches.items c.dumps.items (one_memory old)) (turns_in (turns_of c) (one_memory old)).now.world new)
