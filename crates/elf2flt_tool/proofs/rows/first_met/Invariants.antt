use Rattle.std.proofs.Common.{◌≡◌, None}
use Rattle.elf32_reader.specs.Sections.{section}
use Rattle.flat_layout.specs.Fault.{meets}
use Rattle.psabi_relocs.specs.Search.{first_below}
use Rattle.elf2flt_tool.proofs.rows.first_met.Given as goal

-- none of the sections so far meets it
abbrev pub invariant-loop-other : goal.invariant-loop-other
invariant-loop-other l = first_below (λ j. meets (section l.elf j) (section l.elf l.index)) l.other ≡ None
