-- The entry lies between two places, if it is there.
use Rattle.std.proofs.Common.{◌-◌}
use Rattle.vfork_exec.specs.Procs.{pid_of}
use Rattle.vfork_exec.proofs.Places.{Between}
use Rattle.vfork_exec.proofs.procs.first_place.Given as goal

abbrev pub invariant-loop-low : goal.invariant-loop-low
invariant-loop-low g l = Between pid_of l.pid l.low l.high l.entries

abbrev pub decreases-loop-low : goal.decreases-loop-low
decreases-loop-low g l = l.high - l.low
