-- Between two events no pipe is marked over one memory either.
use Rattle.std.specs.Prelude.{◌≡◌, ℕ, List, []}
use Rattle.quantum_sched.specs.declared.Quantum.{Quantum}
use Rattle.machine_world.specs.World.{World}
use Rattle.memory_world.specs.Physical.{Physical, event_in, turn_in, turns_in, opening_in}
use Rattle.memory_world.specs.After.{AfterHas}

-- no pipe is marked as changed
abbrev pub HasNoMark : World → Type 0
HasNoMark w = w.rest.files.changed ≡ []

abbrev pub OpeningsHaveNoMark : Type 0
OpeningsHaveNoMark = (headers : List (List ℕ)) (w : World) → HasNoMark w → HasNoMark (opening_in headers w).world

abbrev pub EventsHaveNoMark : Type 0
EventsHaveNoMark = (p : Physical) (pid : ℕ) → HasNoMark p.world → AfterHas HasNoMark (event_in p pid)

abbrev pub TurnsHaveNoMark : Type 0
TurnsHaveNoMark = (count pid : ℕ) (p : Physical) → HasNoMark p.world → HasNoMark (turn_in count pid p).now.world

abbrev pub RunsHaveNoMark : Type 0
RunsHaveNoMark = (quanta : List Quantum) (p : Physical) → HasNoMark p.world → HasNoMark (turns_in quanta p).now.world
