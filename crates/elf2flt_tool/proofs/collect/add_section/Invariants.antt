use Rattle.std.proofs.Common.{◌≡◌, None}
use Rattle.elf2flt_tool.specs.Fault.{first_some, entry_fault}
use Rattle.elf2flt_tool.specs.Walk.{IsFound}
use Rattle.elf2flt_tool.proofs.collect.add_section.Given as goal

-- what the entries so far have left, and none had a fault
abbrev pub invariant-loop-entry : goal.invariant-loop-entry
invariant-loop-entry l = record {
  none : first_some (entry_fault l.walk l.section) l.entry ≡ None;
  found : IsFound l.walk l.section l.entry l.cover;
}
