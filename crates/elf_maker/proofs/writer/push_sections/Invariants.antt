use Rattle.std.proofs.Common.{◌≡◌, ◌++◌, take}
use Rattle.std.specs.List.{flat_map}
use Rattle.elf_maker.specs.Spelling.{section_text}
use Rattle.elf_maker.proofs.writer.push_sections.Given as goal

abbrev pub invariant-loop-section : goal.invariant-loop-section
invariant-loop-section l = l.out.items ≡ l.fn.out.items ++ flat_map section_text (take l.section-index l.sections)
