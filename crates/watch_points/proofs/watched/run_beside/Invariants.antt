-- What was done and told so far.
use Rattle.std.proofs.Common.{◌≡◌, ◌-◌, ◌≤◌}
use Rattle.rv32im_step.specs.declared.stop.Stop.TheVariants.{Next}
use Rattle.watch_points.specs.Points.{kind_of_point}
use Rattle.watch_points.proofs.Parts.{Reached}
use Rattle.watch_points.proofs.watched.run_beside.Given as goal

abbrev pub invariant-loop-done : goal.invariant-loop-done
invariant-loop-done g l = record {
  bound : l.done ≤ l.fn.count;
  owners : l.watch.owners.now ≡ l.fn.watch.owners.now;
  mode : l.watch.mode ≡ l.fn.watch.mode;
  name : l.watch.mem.ghost_name ≡ l.fn.watch.mem.ghost_name;
  reached : Reached l.fn.count l.fn.watch.mode l.fn.watch.owners.now l.fn.regs l.fn.watch.mem.now l.fn.watch.first l.near (kind_of_point l.watcher.point.now) l.watcher.spans.now l.pid l.fn.hits
      l.done Next l.regs l.watch.mem.now l.watch.first l.hits;
}

abbrev pub decreases-loop-done : goal.decreases-loop-done
decreases-loop-done g l = l.count - l.done
