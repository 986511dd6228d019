use Rattle.elf2flt_tool.specs.Noted.{IsNoted, entries_before}
use Rattle.elf2flt_tool.proofs.noting.note_all.Given as goal

-- the sections so far are noted
abbrev pub invariant-loop-section : goal.invariant-loop-section
invariant-loop-section l = IsNoted l.walk (entries_before l.walk l.section 0) l.noted
