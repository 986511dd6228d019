use Rattle.std.proofs.Common.{sym}
use Rattle.elf32_reader.proofs.Facts.{ranges_from_search}
use Rattle.elf32_reader.proofs.elf.section_fault_of.Goals as goal

pub some_symtab_is_bad-requires : goal.some_symtab_is_bad-requires
some_symtab_is_bad-requires c = ranges_from_search _ c.requires (sym c.if-some_passes.ensures)

pub some_rela_is_bad-requires : goal.some_rela_is_bad-requires
some_rela_is_bad-requires c = ranges_from_search _ c.requires (sym c.if-some_passes.ensures)
