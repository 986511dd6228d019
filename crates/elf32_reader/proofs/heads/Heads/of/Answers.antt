use Rattle.std.proofs.Common.{sym}
use Rattle.elf32_reader.proofs.Facts.{table_from_header}
use Rattle.elf32_reader.proofs.heads.Heads.of.Goals as goal

pub invariant_of-result : goal.invariant_of-result
invariant_of-result c = table_from_header _ (sym c.in-None.ensures)
