use Rattle.psabi_relocs.proofs.IndexEntries.{HasEntries}
use Rattle.psabi_relocs.proofs.pairs.Pairs.of.Given as goal

-- the entries so far
abbrev pub invariant-loop-entry : goal.invariant-loop-entry
invariant-loop-entry l = HasEntries l.elf l.section l.entry l.gathered
