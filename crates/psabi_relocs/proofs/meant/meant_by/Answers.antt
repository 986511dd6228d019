use Rattle.std.proofs.Common.{◌∙◌, sym, arith}
use Rattle.psabi_relocs.proofs.SpotLists.{around_in_table}
use Rattle.psabi_relocs.proofs.meant.meant_by.Goals as goal

pub symbol-requires-clause-index : goal.symbol-requires-clause-index
symbol-requires-clause-index c = around_in_table c.args.elf.now c.args.table _ _ c.in-Some.symbol (sym (c.requires.around _ _ (omega arith)) ∙ sym c.find.ensures ∙ c.in-Some.is)
