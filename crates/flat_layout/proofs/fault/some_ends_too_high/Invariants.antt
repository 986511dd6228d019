use Rattle.std.proofs.Common.{◌≡◌, false}
use Rattle.byte_words.specs.Search.{any_below}
use Rattle.elf32_reader.specs.Sections.{section}
use Rattle.flat_layout.specs.Fault.{ends_too_high}
use Rattle.flat_layout.proofs.fault.some_ends_too_high.Given as goal

abbrev pub invariant-loop-index : goal.invariant-loop-index
invariant-loop-index l = any_below (λ i. ends_too_high (section l.elf i)) l.index ≡ false
