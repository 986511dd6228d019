use Rattle.std.proofs.Common.{sym}
use Rattle.elf32_reader.proofs.Facts.{table_from_header}
use Rattle.elf32_reader.proofs.elf.fault_of.Goals as goal

pub section_fault_of-requires : goal.section_fault_of-requires
section_fault_of-requires c = table_from_header _ (sym c.in-None.ensures)
