-- The ranges so far.
use Rattle.std.proofs.Common.{◌≡◌, take, map}
use Rattle.call_log.specs.Values.{got_value}
use Rattle.recorded_items.proofs.copies.copied_ranges.Given as goal

abbrev pub invariant-loop-range : goal.invariant-loop-range
invariant-loop-range l = map got_value l.copies.items ≡ map got_value (take l.range-index l.ranges)
