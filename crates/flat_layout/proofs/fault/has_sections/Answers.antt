use Rattle.std.proofs.Common.{arith}
use Rattle.byte_words.proofs.Searches.{any_below_at}
use Rattle.flat_layout.specs.Fault.{has_sections}
use Rattle.flat_layout.proofs.fault.has_sections.Goals as goal

pub returns-then-is_laid_out : goal.returns-then-is_laid_out
unfolding has_sections
returns-then-is_laid_out c = any_below_at _ _ c.loop-index.index (omega arith) (cc)
