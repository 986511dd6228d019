use Rattle.std.proofs.Common.{◌≡◌, map, filter}
use Rattle.std.specs.List.{range_with_len}
use Rattle.elf32_reader.specs.Heads.{row_holds}
use Rattle.elf2flt_tool.specs.Faults.{elf_in}
use Rattle.elf2flt_tool.proofs.rows.section_faults.Given as goal

-- the sections so far
abbrev pub invariant-loop-section : goal.invariant-loop-section
invariant-loop-section l = l.faults.items ≡ map (elf_in l.fault) (filter (row_holds l.row l.heads) (range_with_len 0 l.section))
