-- A run over one memory by a longer list of quanta: it goes on from where the shorter one left it.
use Rattle.std.specs.Prelude.{◌≡◌, List, ◌++◌, Option, Some}
use Rattle.quantum_sched.specs.declared.Quantum.{Quantum}
use Rattle.machine_world.specs.Turns.{End, out_of_quanta}
use Rattle.memory_world.specs.Physical.{Physical, WalkIn, turns_in}

-- with more quanta a walk goes on where its own were used up; one that ended otherwise stays
abbrev pub with_more_in : List Quantum → WalkIn → WalkIn
with_more_in more walk = from walk.end
  where
    from : Option End → WalkIn
    from (Some out_of_quanta) = turns_in more walk.now
    from end = walk

abbrev pub RunsGoOnIn : Type 0
RunsGoOnIn = (front more : List Quantum) (p : Physical) → turns_in (front ++ more) p ≡ with_more_in more (turns_in front p)
