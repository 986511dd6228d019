use Rattle.std.proofs.Common.{◌≡◌, false}
use Rattle.byte_words.specs.Search.{any_below}
use Rattle.elf32_reader.specs.Sections.{section}
use Rattle.flat_layout.specs.Fault.{holds_code}
use Rattle.flat_layout.proofs.fault.some_holds_code.Given as goal

abbrev pub invariant-loop-index : goal.invariant-loop-index
invariant-loop-index l = any_below (λ i. holds_code l.address (section l.elf i)) l.index ≡ false
