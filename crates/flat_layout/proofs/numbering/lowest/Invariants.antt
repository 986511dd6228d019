use Rattle.std.proofs.Common.{◌≡◌, ◌≤◌, ◌^◌}
use Rattle.elf32_reader.specs.Sections.{section}
use Rattle.flat_layout.specs.Extremes.{least_below}
use Rattle.flat_layout.specs.Numbering.{is_laid_out}
use Rattle.flat_layout.proofs.numbering.lowest.Given as goal

abbrev pub invariant-loop-index : goal.invariant-loop-index
invariant-loop-index l = record {
  value : l.least ≡ least_below (λ i. is_laid_out (section l.elf i)) (λ i. (section l.elf i).addr) (2 ^ 32) l.index;
  bound : l.least ≤ 2 ^ 32;
}
