use Rattle.std.proofs.Common.{map, take}
use Rattle.elf_maker.specs.Spelling.{Adds, relas_items}
use Rattle.elf_maker.proofs.making.push_tables.Given as goal

abbrev pub invariant-loop-part : goal.invariant-loop-part
invariant-loop-part l = Adds l.fn.writer l.writer (relas_items l.symtab 0 (map (λ t. t.items) (take l.part l.tables)))
