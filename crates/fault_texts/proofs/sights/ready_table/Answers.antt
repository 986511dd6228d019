-- The table has its place.
use Rattle.std.proofs.Common.{◌∙◌, ap, not, arith}
use Rattle.elf32_reader.proofs.Places.{is_symtab_below}
use Rattle.fault_texts.proofs.Tables.{with_table, has_set, has_old}
use Rattle.fault_texts.proofs.sights.ready_table.Goals as goal

pub index-requires : goal.index-requires
index-requires c = omega (arith, c.args.tables.now.ok.0, c.requires.tables.all, is_symtab_below c.args.elf.now c.args.table c.requires.table)

pub index_mut-requires : goal.index_mut-requires
index_mut-requires c = omega (arith, c.args.tables.now.ok.0, c.requires.tables.all, is_symtab_below c.args.elf.now c.args.table c.requires.table)

pub returns-in_ok-of-clause-tables : goal.returns-in_ok-of-clause-tables
returns-in_ok-of-clause-tables c = with_table c.args.elf.now c.args.tables.now.items c.args.table c.in_ok-of.field-0 c.requires.tables c.in_ok-of.ensures

pub returns-in_ok-of-clause-ready : goal.returns-in_ok-of-clause-ready
returns-in_ok-of-clause-ready c =
    has_set c.args.tables.now.items c.args.table c.in_ok-of.field-0
    (omega (arith, c.requires.tables.all, is_symtab_below c.args.elf.now c.args.table c.requires.table))

pub returns-else-is_none-clause-ready : goal.returns-else-is_none-clause-ready
returns-else-is_none-clause-ready c =
    has_old c.args.tables.now.items c.args.table c.index.result.now
    (omega (arith, c.requires.tables.all, is_symtab_below c.args.elf.now c.args.table c.requires.table))
    (c.is_none.ensures ∙ ap not c.if-is_none.false) c.index.ensures
