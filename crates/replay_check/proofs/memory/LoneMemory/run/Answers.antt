use Rattle.replay_check.proofs.OwnBytes.{window_own, ran_alone}
use Rattle.replay_check.proofs.memory.LoneMemory.run.Goals as goal

pub with_window-watch-requires-clause-window : goal.with_window-watch-requires-clause-window
with_window-watch-requires-clause-window c =
    let s = c.self.inside in
    window_own s.ranges.items s.owners s.mem c.self.invariant c.index-block.result.now c.index-block.ensures

pub returns-clause-leaves : goal.returns-clause-leaves
returns-clause-leaves c =
    let s = c.self.inside in
    let w = c.with_window-watch.result in
    rw (← c.self.view_is) (ran_alone s.ranges.items s.owners s.mem c.self.invariant w.mode w.owners.now w.mem.now c.run_steps.new.watch.mem.now c.args.count c.args.regs.now c.run_steps.new.regs
    c.run_steps.result.done c.run_steps.result.stop c.with_window-watch.ensures.fresh.mode c.with_window-watch.ensures.fresh.owners c.with_window-watch.ensures.fresh.mem c.run_steps.ensures.leaves.leaves)
