use Rattle.elf2flt_tool.specs.Noted.{IsNoted, entries_before}
use Rattle.elf2flt_tool.proofs.noting.note_section.Given as goal

-- the entries so far are noted
abbrev pub invariant-loop-entry : goal.invariant-loop-entry
invariant-loop-entry l = IsNoted l.walk (entries_before l.walk l.section l.entry) l.noted
