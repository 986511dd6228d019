use Rattle.std.proofs.Common.{◌≡◌}
use Rattle.elf2flt_tool.specs.Cover.{lowest_met}
use Rattle.elf2flt_tool.specs.Walk.{recorded_before}
use Rattle.elf2flt_tool.proofs.met.lowest_met.Given as goal

-- the least of the words of the sections so far
abbrev pub invariant-loop-section : goal.invariant-loop-section
invariant-loop-section l = l.least ≡ lowest_met l.cover (recorded_before l.walk l.section 0)
