-- The calls so far, and those of the rest, are all.
use Rattle.std.proofs.Common.{◌≡◌, ◌+◌, ◌≤◌, length, map}
use Rattle.items_text.specs.Values.{item_value}
use Rattle.items_text.specs.Pieces.{many}
use Rattle.items_text.specs.Reading.{item_at}
use Rattle.items_text.proofs.Many.{with_front}
use Rattle.items_text.proofs.reading.list_at.Given as goal

abbrev pub invariant-loop-list : goal.invariant-loop-list
invariant-loop-list l = record {
  read : with_front (map item_value l.list.items) (many item_at l.rest) ≡ many item_at l.text;
  shorter : length l.list.items + length l.rest ≤ length l.text;
}

abbrev pub decreases-loop-list : goal.decreases-loop-list
decreases-loop-list l = length l.rest
