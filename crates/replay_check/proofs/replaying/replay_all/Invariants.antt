use Rattle.std.proofs.Common.{◌-◌, ◌≡◌, ◌≤◌, length, drop, map}
use Rattle.items_text.specs.Values.{item_value}
use Rattle.replay_check.specs.Verdicts.{verdict_from}
use Rattle.replay_check.specs.Solos.{solo_of}
use Rattle.replay_check.specs.Loops.{items_alone}
use Rattle.replay_check.proofs.replaying.replay_all.Given as goal

-- what was done and what is left give the whole
abbrev pub invariant-loop-done : goal.invariant-loop-done
invariant-loop-done l = record {
  whole : verdict_from (l.events - l.done) l.used l.done (solo_of l.lone) (drop l.used (items_alone (map item_value l.items))) ≡ verdict_from l.events 0 0 (solo_of l.fn.lone) (items_alone (map item_value l.items));
  used : l.used ≤ length l.items;
  done : l.done ≤ l.events;
}

abbrev pub decreases-loop-done : goal.decreases-loop-done
decreases-loop-done l = l.events - l.done
