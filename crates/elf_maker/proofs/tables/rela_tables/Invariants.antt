use Rattle.std.proofs.Common.{◌≡◌, map, take}
use Rattle.std.specs.List.{All}
use Rattle.elf_maker.specs.Fits.{FitsRela}
use Rattle.elf_maker.specs.Spelling.{relas_texts}
use Rattle.elf_maker.proofs.tables.rela_tables.Given as goal

abbrev pub invariant-loop-rela : goal.invariant-loop-rela
invariant-loop-rela l = record {
  tables : map (λ table. table.items) l.tables.items ≡ relas_texts l.parts (take l.rela-index l.relas);
  fits : All FitsRela (take l.rela-index l.relas);
}
