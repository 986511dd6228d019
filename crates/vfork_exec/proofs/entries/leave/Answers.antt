-- One more is changed.
use Rattle.std.proofs.Common.{ap, sym, ◌∙◌}
use Rattle.vfork_exec.specs.Procs.{behind}
use Rattle.vfork_exec.proofs.Loops.{map_more}
use Rattle.vfork_exec.proofs.entries.leave.Goals as goal

pub loop-entry-preserved : goal.loop-entry-preserved
loop-entry-preserved g c =
    map_more (behind c.args.pid c.args.parent) c.args.entries.now c.loop-entry.entries c.loop-entry.entry-index c.entry-item.result c.leave.new.self c.loop-entry.invariant c.loop-entry-test.true c.entry-item.is (c.leave.ensures ∙ ap (behind c.args.pid c.args.parent) (sym c.entry-item.is))
