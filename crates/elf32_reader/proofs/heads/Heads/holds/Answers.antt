use Rattle.std.proofs.Common.{arith}
use Rattle.elf32_reader.proofs.Facts.{ranges_from_search}
use Rattle.elf32_reader.proofs.heads.Heads.holds.Goals as goal

pub is_bad_symtab-requires : goal.is_bad_symtab-requires
is_bad_symtab-requires c =
    let in_file = c.requires.in_file (omega arith) in
    ranges_from_search _ c.self.invariant (rw c.self.view_is in_file)

pub is_bad_rela-requires-clause-ranges : goal.is_bad_rela-requires-clause-ranges
is_bad_rela-requires-clause-ranges c =
    let in_file = c.requires.in_file (omega arith) in
    ranges_from_search _ c.self.invariant (rw c.self.view_is in_file)
