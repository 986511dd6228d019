use Rattle.std.proofs.Common.{arith}
use Rattle.byte_words.proofs.Searches.{any_below_at}
use Rattle.flat_layout.specs.Fault.{has_tls}
use Rattle.flat_layout.proofs.fault.has_tls.Goals as goal

pub returns-then-is_tls : goal.returns-then-is_tls
unfolding has_tls
returns-then-is_tls c = any_below_at _ _ c.loop-index.index (omega arith) (cc)
