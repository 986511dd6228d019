-- An end by a signal notes no stray access, and none that was noted goes, and no pipe is marked.
use Rattle.std.proofs.Common.{sym, ◌∙◌}
use Rattle.kept_parts.proofs.Common.AnyRun.{some_about}
use Rattle.syscall_layer.proofs.CallsKeep.{signal_same, signal_unchanged}
use Rattle.syscall_layer.proofs.parts.Parts.end_by_signal.Goals as goal

pub invariant_of-self : goal.invariant_of-self
invariant_of-self c =
    let same = signal_same some_about c.self.inside.kept c.end_by_signal.new.self c.args.pid c.args.signal c.end_by_signal.result (c.end_by_signal.ensures.dies some_about) in
    record {
      noted = c.self.invariant.noted ∙ sym same;
      unmarked = c.end_by_signal.ensures.marks c.self.invariant.unmarked;
    }

pub returns-clause-noted : goal.returns-clause-noted
returns-clause-noted c =
    let same = signal_same some_about c.self.inside.kept c.end_by_signal.new.self c.args.pid c.args.signal c.end_by_signal.result (c.end_by_signal.ensures.dies some_about) in
    c.self.invariant.noted ∙ sym same

pub returns-clause-dies : goal.returns-clause-dies
returns-clause-dies c = let v = c.self.view_is in rw (← v) c.end_by_signal.ensures.dies

pub returns-clause-memory : goal.returns-clause-memory
returns-clause-memory c = let v = c.self.view_is in rw (← v) c.end_by_signal.ensures.memory

pub returns-clause-unchanged : goal.returns-clause-unchanged
returns-clause-unchanged c =
    let v = c.self.view_is in
    let i = c.self.inside in
    rw (← v) (signal_unchanged some_about i.kept c.end_by_signal.new.self c.args.pid c.args.signal c.end_by_signal.result (c.end_by_signal.ensures.dies some_about) i.programs.items i.mode i.noted)
