use Rattle.std.proofs.Common.{subst}
use Rattle.call_log.specs.Sent.{sent}
use Rattle.region_watch.specs.Private.{only, physical}
use Rattle.call_bytes.specs.Reading.{Reads}
use Rattle.replay_check.proofs.OwnBytes.{owned}
use Rattle.replay_check.proofs.memory.LoneMemory.sent.Goals as goal

pub returns : goal.returns
returns c =
    let s = c.self.inside in
    rw (← c.self.view_is) (subst (λ own. Reads (sent c.args.number c.args.args.now (only own (physical s.mem))) c.read_sent.result)
    (owned s.ranges.items s.owners s.mem c.self.invariant) c.read_sent.ensures)
