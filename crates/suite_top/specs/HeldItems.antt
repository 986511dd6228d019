-- The items that a run keeps are held: their numbers are words, and their lists bytes, as those of the code are.
use Rattle.std.specs.Prelude.{◌≡◌, ◌≢◌, ℕ, List, Option, Some, None, IfSome}
use Rattle.host_io.specs.Host.{Told}
use Rattle.items_text.specs.Items.{ItemsValue, AreHeld}
use Rattle.recorded_items.specs.Recorded.{recorded}
use Rattle.manifest_text.specs.Values.{Manifest}
use Rattle.machine_world.specs.World.{World}
use Rattle.flat_machine.specs.Runs.{repeated}
use Rattle.file_commands.specs.declared.status.Status.{Status}
use Rattle.file_commands.specs.Arguments.{Invocation, run, command_of}
use Rattle.file_commands.specs.HostCourse.{inputs_in}
use Rattle.suite_top.specs.Telling.{Telling, Report, mode_of, kept_of}
use Rattle.suite_top.specs.Run.{stopped_world}
use Rattle.suite_top.specs.Opened.{BootedFor, OpensFor, IsStop}

-- those of the space that a world records
abbrev pub RecordsHeld : World → Type 0
RecordsHeld w = (items : ItemsValue) → recorded w.recording w.notes ≡ Some items → AreHeld items

-- those of a run of these files, in the world in which it stopped
abbrev pub StopsHeld : (telling : Telling) {m : Manifest} {files : List (List ℕ)} → BootedFor telling m files → Type 0
StopsHeld telling {m} b = RecordsHeld (stopped_world (mode_of telling) (repeated m.repeat m.quanta) b.brought.headers b.world)

-- where items are kept, and the run ends as its machine stopped
abbrev pub FilesHold : Telling → Manifest → (files : List (List ℕ)) → Status → Type 0
FilesHold telling m files status = kept_of telling ≢ None → IsStop status → (b : BootedFor telling m files) → StopsHeld telling b

-- the same of a run over a host that tells its files
abbrev pub RunHolds : Telling → (name : List ℕ) → Option Told → Status → Type 0
RunHolds telling name told status = IfSome told (λ t. kept_of telling ≢ None → IsStop status → (o : OpensFor (inputs_in t.files) name telling) → StopsHeld telling o.booted)

-- only `run` keeps items
abbrev pub CommandHolds : Option Invocation → Option Told → Status → Type 0
CommandHolds (Some (run manifest options)) told status = RunHolds (Report options) manifest told status
CommandHolds other told status = Unit {0}

-- a clause of `suite`: so it is of a call of these arguments, over a host that tells this before it, which ended with this status
abbrev pub KeepsHeld : List (List ℕ) → Option Told → Status → Type 0
KeepsHeld arguments told status = CommandHolds (command_of arguments) told status
