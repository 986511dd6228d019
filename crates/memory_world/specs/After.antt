-- What is said of what an event over one memory leaves.
use Rattle.machine_world.specs.World.{World}
use Rattle.memory_world.specs.Physical.{Physical, After, after, no_room, nobody}

-- of the memory and its world
abbrev pub AfterIs : (Physical → Type 0) → After → Type 0
AfterIs P (after now over) = P now
AfterIs P (no_room now) = P now
AfterIs P nobody = Unit {0}

-- of the world alone
abbrev pub AfterHas : (World → Type 0) → After → Type 0
AfterHas P = AfterIs (λ p. P p.world)
