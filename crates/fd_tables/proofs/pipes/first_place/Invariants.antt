-- The pipe lies between two places, if it is there.
use Rattle.std.proofs.Common.{◌-◌}
use Rattle.vfork_exec.proofs.Places.{Between}
use Rattle.fd_tables.specs.Pipes.{pipe_id}
use Rattle.fd_tables.proofs.pipes.first_place.Given as goal

abbrev pub invariant-loop-low : goal.invariant-loop-low
invariant-loop-low l = Between pipe_id l.id l.low l.high l.pipes

abbrev pub decreases-loop-low : goal.decreases-loop-low
decreases-loop-low l = l.high - l.low
