use Rattle.std.proofs.Common.{arith}
use Rattle.byte_words.proofs.Searches.{any_below_at}
use Rattle.flat_layout.specs.Fault.{meets_below}
use Rattle.flat_layout.proofs.fault.meets_below.Goals as goal

pub returns-then-meets : goal.returns-then-meets
unfolding meets_below
returns-then-meets c = any_below_at _ _ c.loop-other.other (omega arith) (cc)
