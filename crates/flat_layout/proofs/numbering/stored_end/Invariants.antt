use Rattle.std.proofs.Common.{◌≡◌}
use Rattle.elf32_reader.specs.Sections.{section}
use Rattle.flat_layout.specs.Extremes.{greatest_below}
use Rattle.flat_layout.specs.Numbering.{has_bytes, distance, end_of}
use Rattle.flat_layout.proofs.numbering.stored_end.Given as goal

abbrev pub invariant-loop-index : goal.invariant-loop-index
invariant-loop-index l = l.greatest ≡ greatest_below (λ i. has_bytes (section l.elf i)) (λ i. distance l.elf (end_of (section l.elf i))) l.index
