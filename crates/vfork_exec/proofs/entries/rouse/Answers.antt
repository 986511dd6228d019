-- One more is changed.
use Rattle.std.proofs.Common.{get_or, ap, sym, ◌∙◌}
use Rattle.vfork_exec.specs.declared.entry.Entry.{Entry}
use Rattle.vfork_exec.specs.Families.{roused}
use Rattle.vfork_exec.specs.Procs.{with_state}
use Rattle.vfork_exec.proofs.Loops.{map_more}
use Rattle.vfork_exec.proofs.entries.rouse.Goals as goal

pub loop-entry-preserved : goal.loop-entry-preserved
loop-entry-preserved g c =
    map_more (λ e. with_state e (roused c.args.pipe e.state)) c.args.entries.now c.loop-entry.entries c.loop-entry.entry-index c.entry-item.result _ c.loop-entry.invariant c.loop-entry-test.true c.entry-item.is (ap (with_state (get_or c.loop-entry.entries c.loop-entry.entry-index c.entry-item.result)) c.roused-entry.ensures ∙ ap (λ (e : Entry g.row.P.Denot). with_state e (roused c.args.pipe e.state)) (sym c.entry-item.is))
