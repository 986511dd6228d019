use Rattle.std.proofs.Common.{ap}
use Rattle.host_io.proofs.CallSet.{keys-insert}
use Rattle.host_io.specs.Calls.{with_failing}
use Rattle.host_io.proofs.calls.Calls.fail_at.Goals as goal

pub returns-clause-ok : goal.returns-clause-ok
returns-clause-ok c =
    rw (keys-insert _ _ _ c.in_ok-insert.ensures.updates, c.from.ensures) (ap (λ s. with_failing s c.args.call) c.self.view_is)
