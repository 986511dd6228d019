-- What the loop has seen is held.
use Rattle.call_log.specs.Values.{got_value}
use Rattle.items_text.specs.Items.{HoldsGot}
use Rattle.suite_top.proofs.Each.{OfFirst}
use Rattle.suite_top.proofs.held.ranges_are_held.Given as goal

abbrev pub invariant-loop-range : goal.invariant-loop-range
invariant-loop-range l = OfFirst got_value HoldsGot l.range-index l.fn.ranges
