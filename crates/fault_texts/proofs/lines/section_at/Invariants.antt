-- None of the sections so far has the byte.
use Rattle.std.proofs.Common.{◌≡◌, None}
use Rattle.elf32_reader.specs.Sections.{section}
use Rattle.psabi_relocs.specs.Search.{first_below}
use Rattle.fault_texts.specs.Lines.{has_byte}
use Rattle.fault_texts.proofs.lines.section_at.Given as goal

abbrev pub invariant-loop-index : goal.invariant-loop-index
invariant-loop-index l = first_below (λ i. has_byte l.address (section l.elf i)) l.index ≡ None
