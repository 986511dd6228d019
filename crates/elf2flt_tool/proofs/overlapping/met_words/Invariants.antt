use Rattle.std.proofs.Common.{◌≡◌, flat_map}
use Rattle.elf2flt_tool.specs.Noted.{entries_before, met_by}
use Rattle.elf2flt_tool.proofs.overlapping.met_words.Given as goal

-- the words of the sections so far
abbrev pub invariant-loop-section : goal.invariant-loop-section
invariant-loop-section l = l.met.items ≡ flat_map (met_by l.walk l.cover) (entries_before l.walk l.section 0)
