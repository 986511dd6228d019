use Rattle.std.proofs.Common.{arith}
use Rattle.byte_words.proofs.Searches.{any_below_at}
use Rattle.elf32_reader.proofs.rela.some_lacks_symbol.Goals as goal

pub returns-then-lacks_symbol : goal.returns-then-lacks_symbol
returns-then-lacks_symbol c = any_below_at _ _ c.loop-entry.entry (omega arith) c.if-lacks_symbol.ensures
