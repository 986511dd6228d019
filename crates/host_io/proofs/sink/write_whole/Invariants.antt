use Rattle.std.proofs.Common.{◌≡◌, length}
use Rattle.host_io.specs.Sink.{Sent}
use Rattle.host_io.proofs.sink.write_whole.Given as goal

-- no fault and no shortage so far, and what is written and what is left are all bytes
abbrev pub invariant-loop-rest : goal.invariant-loop-rest
invariant-loop-rest g l = record {
  sent : Sent (g.S.Sink.told l.fn.sink) (g.S.Sink.told l.sink) l.bytes l.rest;
  no_fault : g.S.Sink.faults l.sink ≡ g.S.Sink.faults l.fn.sink;
  no_shortage : g.S.Sink.shortages l.sink ≡ g.S.Sink.shortages l.fn.sink;
}

abbrev pub decreases-loop-rest : goal.decreases-loop-rest
decreases-loop-rest g l = length l.rest
