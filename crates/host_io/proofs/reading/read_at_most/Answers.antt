use Rattle.std.proofs.Common.{ap, ◌+◌, ◌∙◌, arith, rules}
use Rattle.host_io.proofs.BoundedRead.{all-left}
use Rattle.host_io.proofs.reading.read_at_most.Goals as goal

pub returns-clause-left : goal.returns-clause-left
returns-clause-left g c =
    rw (← c.take-bounded.ensures.inner)
    (all-left _ _ _ _ _ c.requires (c.take-bounded.ensures.limit ∙ ap (λ n. n + 1) c.from.ensures) (search (rules, arith)) c.in_default.ensures.bytes)
