use Rattle.std.proofs.Common.{arith}
use Rattle.byte_words.proofs.Searches.{any_below_at}
use Rattle.elf32_reader.proofs.symbol.some_symtab_is_bad.Goals as goal

pub returns-then-is_bad_symtab : goal.returns-then-is_bad_symtab
returns-then-is_bad_symtab c = any_below_at _ _ c.loop-table.table (omega arith) c.if-is_bad_symtab.ensures
