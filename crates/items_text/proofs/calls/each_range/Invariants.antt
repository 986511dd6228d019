-- The ranges so far, and those of the rest, are all.
use Rattle.std.proofs.Common.{◌≡◌, length, map}
use Rattle.call_log.specs.Values.{got_value}
use Rattle.items_text.specs.Pieces.{many}
use Rattle.items_text.specs.Reading.{range_at}
use Rattle.items_text.proofs.Many.{with_front}
use Rattle.items_text.proofs.calls.each_range.Given as goal

abbrev pub invariant-loop-ranges : goal.invariant-loop-ranges
invariant-loop-ranges l = with_front (map got_value l.ranges.items) (many range_at l.rest) ≡ many range_at l.text

abbrev pub decreases-loop-ranges : goal.decreases-loop-ranges
decreases-loop-ranges l = length l.rest
