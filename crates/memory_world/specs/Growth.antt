-- What a run over one memory only adds to, and what it leaves.
use Rattle.std.specs.Prelude.{◌≡◌, ℕ, List, length, ◌++◌}
use Rattle.quantum_sched.specs.declared.Quantum.{Quantum}
use Rattle.call_log.specs.Notes.{Note}
use Rattle.machine_world.specs.World.{World}
use Rattle.machine_world.specs.Programs.{AreLoaded}
use Rattle.memory_world.specs.Physical.{Physical, event_in, turn_in, turns_in}
use Rattle.memory_world.specs.After.{AfterHas}

-- notes come before those that are there, and the console has more behind what it has
abbrev pub Adds : (old now : World) → Type 0
Adds old now =
    ((more : List Note) × (now.notes ≡ more ++ old.notes)) × ((more : List ℕ) × (now.rest.console ≡ old.rest.console ++ more))

abbrev pub EventsAdd : Type 0
EventsAdd = (p : Physical) (pid : ℕ) → AfterHas (Adds p.world) (event_in p pid)

abbrev pub TurnsAdd : Type 0
TurnsAdd = (count pid : ℕ) (p : Physical) → Adds p.world (turn_in count pid p).now.world

abbrev pub RunsAdd : Type 0
RunsAdd = (quanta : List Quantum) (p : Physical) → Adds p.world (turns_in quanta p).now.world

-- the same programs, pages, and choice of free runs; and load notes name programs that are there, if they did
pub record LeavesPrograms (old now : World) : Type 0 where
  pub programs : now.rest.programs ≡ old.rest.programs
  pub pages : now.rest.pages ≡ old.rest.pages
  pub kind : now.rest.kind ≡ old.rest.kind
  pub loaded : AreLoaded (length old.rest.programs) old.notes → AreLoaded (length old.rest.programs) now.notes

abbrev pub EventsLeavePrograms : Type 0
EventsLeavePrograms = (p : Physical) (pid : ℕ) → AfterHas (LeavesPrograms p.world) (event_in p pid)

abbrev pub TurnsLeavePrograms : Type 0
TurnsLeavePrograms = (count pid : ℕ) (p : Physical) → LeavesPrograms p.world (turn_in count pid p).now.world

abbrev pub RunsLeavePrograms : Type 0
RunsLeavePrograms = (quanta : List Quantum) (p : Physical) → LeavesPrograms p.world (turns_in quanta p).now.world
