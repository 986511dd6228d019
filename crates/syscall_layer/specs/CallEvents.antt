-- The call of a run that goes on is an event of it.
use Rattle.std.specs.Prelude.{◌≡◌, ℕ, false}
use Rattle.rv32im_step.specs.declared.stop.Stop.TheVariants.{Call}
use Rattle.machine_world.specs.Courses.{StandsAt}
use Rattle.memory_world.specs.Physical.{Physical, has_stray, event_in}
use Rattle.memory_world.specs.Courses.{StandsIn}
use Rattle.kept_parts.specs.InMemory.{called_on}

-- where the next instruction of a process is an ECALL, over all of memory and, up to the run's first stray access, over its own bytes
abbrev pub CallsAreEvents : Type 0
CallsAreEvents = (p : Physical) (pid : ℕ) → StandsIn p pid Call → (has_stray p.world.notes ≡ false → StandsAt p.world pid Call) → called_on p pid ≡ event_in p pid
