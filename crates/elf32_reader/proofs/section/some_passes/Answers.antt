use Rattle.std.proofs.Common.{arith}
use Rattle.byte_words.proofs.Searches.{any_below_at}
use Rattle.elf32_reader.proofs.section.some_passes.Goals as goal

pub returns-then-passes : goal.returns-then-passes
returns-then-passes c = any_below_at _ _ c.loop-index.index (omega arith) c.if-passes.ensures
