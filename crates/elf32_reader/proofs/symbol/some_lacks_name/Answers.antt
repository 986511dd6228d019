use Rattle.std.proofs.Common.{arith}
use Rattle.byte_words.proofs.Searches.{any_below_at}
use Rattle.elf32_reader.proofs.symbol.some_lacks_name.Goals as goal

pub returns-then-lacks_name : goal.returns-then-lacks_name
returns-then-lacks_name c = any_below_at _ _ c.loop-index.index (omega arith) c.if-lacks_name.ensures
