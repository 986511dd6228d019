use Rattle.std.proofs.Common.{arith}
use Rattle.byte_words.proofs.Searches.{any_below_at}
use Rattle.flat_layout.specs.Fault.{has_overlap}
use Rattle.flat_layout.proofs.fault.has_overlap.Goals as goal

pub returns-then-meets_below : goal.returns-then-meets_below
unfolding has_overlap
returns-then-meets_below c = any_below_at _ _ c.loop-index.index (omega arith) (cc)
