use Rattle.std.proofs.Common.{◌≡◌, false}
use Rattle.byte_words.specs.Search.{any_below}
use Rattle.elf32_reader.specs.Faults.{is_symbolless}
use Rattle.elf32_reader.proofs.rela.some_lacks_symbol.Given as goal

abbrev pub invariant-loop-entry : goal.invariant-loop-entry
invariant-loop-entry l = any_below (is_symbolless l.bytes l.index) l.entry ≡ false
