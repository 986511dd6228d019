-- What was seen so far, and where the loop ends.
use Rattle.std.proofs.Common.{◌≡◌, ◌-◌, ◌<◌, ◌≤◌}
use Rattle.std.specs.Prelude.{None}
use Rattle.rv32im_step.specs.Parts.{registers}
use Rattle.rv32im_step.specs.declared.stop.Stop.TheVariants.{Next}
use Rattle.watch_points.specs.Near.{Left, listed, end_at}
use Rattle.watch_points.proofs.watched.near_steps.Given as goal

abbrev pub invariant-loop-done : goal.invariant-loop-done
invariant-loop-done l = record {
  left : Left l.fn.bus.end l.fn.bus.bus.now.mode l.fn.bus.bus.now.owners.now (registers l.fn.pc l.fn.x) l.fn.bus.bus.now.mem.now l.fn.bus.bus.now.first l.fn.bus.near l.done Next (registers l.pc l.x) l.bus.bus.now.mem.now l.bus.bus.now.first (listed l.bus.seen);
  owners : l.bus.bus.now.owners.now ≡ l.fn.bus.bus.now.owners.now;
  mode : l.bus.bus.now.mode ≡ l.fn.bus.bus.now.mode;
  name : l.bus.bus.now.mem.ghost_name ≡ l.fn.bus.bus.now.mem.ghost_name;
  watch : l.bus.bus.ghost_name ≡ l.fn.bus.bus.ghost_name;
  near : l.bus.near ≡ l.fn.bus.near;
  ends : l.bus.end ≡ end_at l.fn.bus.end l.bus.seen;
  bound : l.done ≤ l.fn.bus.end;
  goes : (l.bus.seen ≡ None → ⊥) → 0 < l.done;
}

abbrev pub decreases-loop-done : goal.decreases-loop-done
decreases-loop-done l = l.fn.bus.end - l.done
