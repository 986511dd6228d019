use Rattle.std.proofs.Common.{◌≡◌, false}
use Rattle.byte_words.specs.Search.{any_below}
use Rattle.elf32_reader.specs.Faults.{is_bad_rela}
use Rattle.elf32_reader.proofs.rela.some_rela_is_bad.Given as goal

abbrev pub invariant-loop-index : goal.invariant-loop-index
invariant-loop-index l = any_below (is_bad_rela l.bytes) l.index ≡ false
