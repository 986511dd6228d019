-- One entry more waits.
use Rattle.std.proofs.Common.{◌∷◌, sym, ap, ◌∙◌}
use Rattle.mem_files.specs.Inodes.{entries_of}
use Rattle.rom_tree.specs.declared.nodes.Waiting.{Waiting as Stored}
use Rattle.rom_tree.specs.Code.{waiting_value, waiting_list}
use Rattle.rom_tree.proofs.Steps.{one_more, entry_waits}
use Rattle.rom_tree.proofs.nodes.push_entries.Goals as goal

pub loop-behind-preserved : goal.loop-behind-preserved
loop-behind-preserved c =
    let w : Stored = record { parent = c.args.number; name = c.in-Some.name; id = c.in-Some.id } in
    ap waiting_list c.in_ok-push.ensures.items
    ∙ one_more c.loop-behind.waiting.items w
    ∙ ap (λ left. waiting_value w ∷ left) c.loop-behind.invariant
    ∙ entry_waits (entries_of c.args.tree.now c.args.folder) c.args.number c.entry_count-count.result c.loop-behind.behind _ (waiting_list c.args.waiting.now.items) c.loop-behind-test.true (sym c.in-Some.ensures)
