use Rattle.std.proofs.Common.{◌≡◌, false}
use Rattle.byte_words.specs.Search.{any_below}
use Rattle.elf32_reader.specs.Sections.{section}
use Rattle.flat_layout.specs.Fault.{meets}
use Rattle.flat_layout.proofs.fault.meets_below.Given as goal

abbrev pub invariant-loop-other : goal.invariant-loop-other
invariant-loop-other l = any_below (λ j. meets (section l.elf j) (section l.elf l.index)) l.other ≡ false
