use Rattle.std.specs.Io.KnownBytes.{Keeps}
use Rattle.host_io.proofs.stream_sink.write_some.Given as goal

-- interrupted writes leave the stream as it was
abbrev pub invariant-loop : goal.invariant-loop
invariant-loop g l = Keeps (g.W.Write.contents l.fn.stream) (g.W.Write.contents l.stream)
