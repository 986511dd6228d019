use Rattle.std.proofs.Common.{◌≡◌}
use Rattle.elf32_reader.specs.Sections.{section}
use Rattle.flat_layout.specs.Extremes.{least_below}
use Rattle.flat_layout.specs.Numbering.{is_written, distance}
use Rattle.flat_layout.specs.Layout.{stored_end}
use Rattle.flat_layout.proofs.numbering.written_from.Given as goal

abbrev pub invariant-loop-index : goal.invariant-loop-index
invariant-loop-index l = l.least ≡ least_below (λ i. is_written (section l.elf i)) (λ i. distance l.elf (section l.elf i).addr) (stored_end l.elf) l.index
