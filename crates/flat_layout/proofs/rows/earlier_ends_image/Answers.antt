use Rattle.std.proofs.Common.{arith}
use Rattle.byte_words.proofs.Searches.{any_below_at}
use Rattle.flat_layout.proofs.rows.earlier_ends_image.Goals as goal

pub returns-then-ends_image : goal.returns-then-ends_image
returns-then-ends_image c = any_below_at _ _ c.loop-other.other (omega arith) c.if-ends_image.ensures
