use Rattle.std.proofs.Common.{[], ◌∷◌, length, arith, ap}
use Rattle.elf_maker.specs.Spelling.{Adds, relas_items}
use Rattle.elf_maker.proofs.Laid.{tables_room, tables_more}
use Rattle.elf_maker.proofs.making.push_tables.Goals as goal

pub push_table-requires-clause-body : goal.push_table-requires-clause-body
push_table-requires-clause-body c =
    omega (arith, tables_room c.args.writer.now c.loop-part.writer c.args.symtab c.loop-part.part c.args.tables.now c.loop-part.invariant c.index-tables-part.result c.loop-part-test.true)

pub push_table-requires-clause-table : goal.push_table-requires-clause-table
push_table-requires-clause-table c =
    let room = tables_room c.args.writer.now c.loop-part.writer c.args.symtab c.loop-part.part c.args.tables.now c.loop-part.invariant c.index-tables-part.result c.loop-part-test.true in
    omega (arith, room, ap length c.deref.ensures.value, ap (λ t. length t.items) c.index-tables-part.is)

pub loop-part-preserved : goal.loop-part-preserved
loop-part-preserved c =
    let v = c.index-tables-part.result in
    let added : Adds c.loop-part.writer c.push_table.new.writer (relas_items c.args.symtab c.loop-part.part (v.items ∷ [])) = rw (← c.deref.ensures.value) c.in_ok-push_table.ensures in
    tables_more c.args.writer.now c.loop-part.writer c.push_table.new.writer c.args.symtab c.loop-part.part c.args.tables.now v c.loop-part-test.true c.index-tables-part.is c.loop-part.invariant added
