-- Over one memory too every event keeps the tree of names, and exact counts of what is open, behind the first stray access as before it
-- (POSIX.1-2017, 4.13 Pathname Resolution, close).
use Rattle.std.specs.Prelude.{ℕ, List}
use Rattle.quantum_sched.specs.declared.Quantum.{Quantum}
use Rattle.machine_world.specs.World.{World}
use Rattle.machine_world.specs.Order.{IsInOrder}
use Rattle.memory_world.specs.Physical.{Physical, event_in, turn_in, turns_in, opening_in}
use Rattle.memory_world.specs.After.{AfterHas}

abbrev pub OpeningsKeepOrder : Type 0
OpeningsKeepOrder = (headers : List (List ℕ)) (w : World) → IsInOrder w → IsInOrder (opening_in headers w).world

abbrev pub EventsKeepOrderIn : Type 0
EventsKeepOrderIn = (p : Physical) (pid : ℕ) → IsInOrder p.world → AfterHas IsInOrder (event_in p pid)

abbrev pub TurnsKeepOrderIn : Type 0
TurnsKeepOrderIn = (count pid : ℕ) (p : Physical) → IsInOrder p.world → IsInOrder (turn_in count pid p).now.world

abbrev pub RunsKeepOrderIn : Type 0
RunsKeepOrderIn = (quanta : List Quantum) (p : Physical) → IsInOrder p.world → IsInOrder (turns_in quanta p).now.world
