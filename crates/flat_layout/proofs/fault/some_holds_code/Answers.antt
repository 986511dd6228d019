use Rattle.std.proofs.Common.{arith}
use Rattle.byte_words.proofs.Searches.{any_below_at}
use Rattle.flat_layout.proofs.fault.some_holds_code.Goals as goal

pub returns-then-holds_code : goal.returns-then-holds_code
returns-then-holds_code c = any_below_at _ _ c.loop-index.index (omega arith) (cc)
