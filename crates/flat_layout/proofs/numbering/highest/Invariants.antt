use Rattle.std.proofs.Common.{◌≡◌, ◌≤◌, ◌^◌}
use Rattle.elf32_reader.specs.Sections.{section}
use Rattle.flat_layout.specs.Extremes.{greatest_below}
use Rattle.flat_layout.specs.Numbering.{is_laid_out, end_of}
use Rattle.flat_layout.proofs.numbering.highest.Given as goal

abbrev pub invariant-loop-index : goal.invariant-loop-index
invariant-loop-index l = record {
  value : l.greatest ≡ greatest_below (λ i. is_laid_out (section l.elf i)) (λ i. end_of (section l.elf i)) l.index;
  bound : l.greatest ≤ 2 ^ 33;
}
