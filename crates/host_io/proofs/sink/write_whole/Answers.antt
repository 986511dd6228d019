use Rattle.std.proofs.Common.{◌∙◌}
use Rattle.host_io.proofs.Sending.{sent-more, no_fault-taken, no_shortage-taken}
use Rattle.host_io.proofs.sink.write_whole.Goals as goal

pub loop-rest-preserved : goal.loop-rest-preserved
loop-rest-preserved g c = record {
  sent = sent-more _ _ _ _ _ _ c.in_ok-taken.taken c.loop-rest.invariant.sent c.in_ok-taken.ensures.takes c.split_at.ensures.back;
  no_fault = no_fault-taken _ _ _ _ c.in_ok-taken.ensures.cause c.if-taken-eq0.false ∙ c.loop-rest.invariant.no_fault;
  no_shortage = no_shortage-taken _ _ _ c.in_ok-taken.ensures.shortage ∙ c.loop-rest.invariant.no_shortage;
}
