use Rattle.std.proofs.Common.{arith}
use Rattle.byte_words.proofs.Searches.{any_below_at}
use Rattle.flat_layout.specs.Fault.{has_dynamic}
use Rattle.flat_layout.proofs.fault.has_dynamic.Goals as goal

pub returns-then-is_dynamic : goal.returns-then-is_dynamic
unfolding has_dynamic
returns-then-is_dynamic c = any_below_at _ _ c.loop-index.index (omega arith) (cc)
