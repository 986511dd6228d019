use Rattle.std.proofs.Common.{arith}
use Rattle.byte_words.proofs.Searches.{any_below_at}
use Rattle.elf32_reader.proofs.rela.some_rela_is_bad.Goals as goal

pub returns-then-is_bad_rela : goal.returns-then-is_bad_rela
returns-then-is_bad_rela c = any_below_at _ _ c.loop-index.index (omega arith) c.if-is_bad_rela.ensures
