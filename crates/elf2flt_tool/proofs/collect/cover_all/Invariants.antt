use Rattle.std.proofs.Common.{◌≡◌, None}
use Rattle.elf2flt_tool.specs.Fault.{first_some, section_fault}
use Rattle.elf2flt_tool.specs.Walk.{IsFound}
use Rattle.elf2flt_tool.proofs.collect.cover_all.Given as goal

-- what the sections so far have left, and none had a fault
abbrev pub invariant-loop-section : goal.invariant-loop-section
invariant-loop-section l = record {
  none : first_some (section_fault l.walk) l.section ≡ None;
  found : IsFound l.walk l.section 0 l.cover;
}
