use Rattle.std.proofs.Common.{◌≡◌, flat_map}
use Rattle.elf2flt_tool.specs.Noted.{entries_before, met_by}
use Rattle.elf2flt_tool.proofs.overlapping.add_section.Given as goal

-- the words of the entries so far
abbrev pub invariant-loop-entry : goal.invariant-loop-entry
invariant-loop-entry l = l.met.items ≡ flat_map (met_by l.walk l.cover) (entries_before l.walk l.section l.entry)
