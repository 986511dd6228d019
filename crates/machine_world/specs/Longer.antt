-- A run by a longer list of quanta: it goes on from where the shorter one left it.
use Rattle.std.specs.Prelude.{◌≡◌, List, ◌++◌, Option, Some}
use Rattle.quantum_sched.specs.declared.Quantum.{Quantum}
use Rattle.machine_world.specs.World.{World}
use Rattle.machine_world.specs.Turns.{End, Walk, out_of_quanta, turns, walked}

-- with more quanta a walk goes on where its own were used up; one that ended otherwise stays
abbrev pub with_more : List Quantum → Walk → Walk
with_more more walk = from walk.end
  where
    from : Option End → Walk
    from (Some out_of_quanta) = walked walk.traces (turns more walk.world)
    from end = walk

abbrev pub RunsGoOn : Type 0
RunsGoOn = (front more : List Quantum) (w : World) → turns (front ++ more) w ≡ with_more more (turns front w)
