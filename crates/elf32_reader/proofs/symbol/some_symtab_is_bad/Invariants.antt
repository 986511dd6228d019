use Rattle.std.proofs.Common.{◌≡◌, false}
use Rattle.byte_words.specs.Search.{any_below}
use Rattle.elf32_reader.specs.Faults.{is_bad_symtab}
use Rattle.elf32_reader.proofs.symbol.some_symtab_is_bad.Given as goal

abbrev pub invariant-loop-table : goal.invariant-loop-table
invariant-loop-table l = any_below (is_bad_symtab l.bytes) l.table ≡ false
