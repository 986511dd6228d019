use Rattle.host_io.proofs.Faulted.{one_fault-has_write_cause}
use Rattle.host_io.proofs.mem_sink.MemSinkSink.write.Goals as goal

pub returns-then-is_failing-clause-cause : goal.returns-then-is_failing-clause-cause
returns-then-is_failing-clause-cause c =
    rw (← c.self.view_is) (one_fault-has_write_cause c.self.inside.calls c.count.new.self c.fault.new.self _ c.count.ensures c.fault.ensures.fault c.fault.ensures.later)
