use Rattle.std.proofs.Common.{◌≡◌, false}
use Rattle.byte_words.specs.Search.{any_below}
use Rattle.elf32_reader.specs.Faults.{is_nameless}
use Rattle.elf32_reader.proofs.symbol.some_lacks_name.Given as goal

abbrev pub invariant-loop-index : goal.invariant-loop-index
invariant-loop-index l = any_below (is_nameless l.bytes l.table) l.index ≡ false
