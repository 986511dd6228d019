use Rattle.std.proofs.Common.{◌≡◌, [], map}
use Rattle.elf_maker.specs.Spelling.{relas_texts}
use Rattle.elf_maker.proofs.tables.no_tables.Given as goal

abbrev pub invariant-loop : goal.invariant-loop
invariant-loop l = map (λ table. table.items) l.tables.items ≡ relas_texts l.counter []
