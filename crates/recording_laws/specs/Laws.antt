-- What a run records of one space is the stay of that space.
use Rattle.std.specs.Prelude.{◌≡◌, ℕ, true, List, Some, Ok, slice_get}
use Rattle.quantum_sched.specs.declared.Quantum.{Quantum}
use Rattle.machine_world.specs.World.{Rest, World}
use Rattle.machine_world.specs.Families.{MayRun}
use Rattle.machine_world.specs.Recordings.{is_recorded}
use Rattle.machine_world.specs.Event.{Trace, went, event}
use Rattle.machine_world.specs.Turns.{turn, turns}
use Rattle.machine_world.specs.Boot.{StartLine, empty_world, boot}
use Rattle.alone_laws.specs.Stays.{Stay, collect, collect_all, stays_along, first_stays}
use Rattle.alone_laws.specs.Sound.{IsSound}
use Rattle.recording_laws.specs.Items.{AreRecorded, Tells}

abbrev pub BootsRecord : Type 0
BootsRecord = (rest : Rest) (starts : List StartLine) (w : World) → boot rest starts ≡ Ok w → AreRecorded (first_stays (empty_world rest) starts) w

abbrev pub EventsRecord : Type 0
EventsRecord =
    (ys : List Stay) (w : World) (pid : ℕ) (now : World) (t : Trace) → IsSound w → MayRun w pid → AreRecorded ys w → event w pid ≡ went now t → AreRecorded (collect ys t) now

abbrev pub TurnsRecord : Type 0
TurnsRecord =
    (ys : List Stay) (count pid : ℕ) (w : World) → IsSound w → MayRun w pid → AreRecorded ys w → AreRecorded (collect_all ys (turn count pid w).traces) (turn count pid w).world

abbrev pub RunsRecord : Type 0
RunsRecord = (ys : List Stay) (quanta : List Quantum) (w : World) → IsSound w → AreRecorded ys w → AreRecorded (stays_along ys w quanta) (turns quanta w).world

-- of a space that has a stay, once it is there
abbrev pub RecordingsTell : Type 0
RecordingsTell = (ys : List Stay) (w : World) (i : ℕ) (y : Stay) → AreRecorded ys w → is_recorded w.recording i ≡ true → slice_get ys i ≡ Some y → Tells i y w
