use Rattle.std.proofs.Common.{◌≡◌}
use Rattle.elf2flt_tool.specs.Cover.{lowest_met}
use Rattle.elf2flt_tool.specs.Walk.{recorded_before}
use Rattle.elf2flt_tool.proofs.met.lower_in_section.Given as goal

-- the least of the words of the entries so far
abbrev pub invariant-loop-entry : goal.invariant-loop-entry
invariant-loop-entry l = l.least ≡ lowest_met l.cover (recorded_before l.walk l.section l.entry)
