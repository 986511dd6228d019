use Rattle.std.proofs.Common.{sym, arith}
use Rattle.elf32_reader.proofs.Facts.{is_elf}
use Rattle.elf32_reader.proofs.elf.Elf.read.Goals as goal

pub invariant_of-result : goal.invariant_of-result
invariant_of-result c = is_elf _ (record { no_fault = sym c.in-None.ensures; bytes = λ k. (let fits = c.type_inv.bytes k in omega arith) })
