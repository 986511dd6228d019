use Rattle.std.proofs.Common.{◌≡◌, ◌++◌, map, filter}
use Rattle.std.specs.List.{range_with_len}
use Rattle.flat_layout.specs.Rows.{row_holds}
use Rattle.elf2flt_tool.specs.Faults.{layout_in}
use Rattle.elf2flt_tool.proofs.rows.add_row.Given as goal

-- the sections so far
abbrev pub invariant-loop-section : goal.invariant-loop-section
invariant-loop-section l = l.faults.items ≡ l.fn.faults.items ++ map (layout_in l.fault) (filter (row_holds l.row l.elf) (range_with_len 0 l.section))
