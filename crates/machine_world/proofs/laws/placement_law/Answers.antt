-- By the row of mmap2, by the start of a line, and by the cases of an execve.
use Rattle.machine_world.proofs.PlacementLaws.{maps_are_exact, starts_are_exact, execs_are_exact}
use Rattle.machine_world.proofs.laws.placement_law.Goals as goal

pub returns-clause-starts : goal.returns-clause-starts
returns-clause-starts c = starts_are_exact

pub returns-clause-mmap2 : goal.returns-clause-mmap2
returns-clause-mmap2 c = maps_are_exact

pub returns-clause-execs : goal.returns-clause-execs
returns-clause-execs c = execs_are_exact
