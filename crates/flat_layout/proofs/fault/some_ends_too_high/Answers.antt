use Rattle.std.proofs.Common.{arith}
use Rattle.byte_words.proofs.Searches.{any_below_at}
use Rattle.flat_layout.specs.Fault.{some_ends_too_high}
use Rattle.flat_layout.proofs.fault.some_ends_too_high.Goals as goal

pub returns-then-ends_too_high : goal.returns-then-ends_too_high
unfolding some_ends_too_high
returns-then-ends_too_high c = any_below_at _ _ c.loop-index.index (omega arith) (cc)
