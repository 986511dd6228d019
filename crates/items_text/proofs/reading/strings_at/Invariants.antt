-- The strings so far, and those of the rest, are all.
use Rattle.std.proofs.Common.{◌≡◌, ◌+◌, ◌≤◌, length}
use Rattle.call_log.specs.Programs.{paths_of as texts_of}
use Rattle.items_text.specs.Pieces.{many}
use Rattle.items_text.specs.Reading.{string_at}
use Rattle.items_text.proofs.Many.{with_front}
use Rattle.items_text.proofs.reading.strings_at.Given as goal

abbrev pub invariant-loop-strings : goal.invariant-loop-strings
invariant-loop-strings l = record {
  read : with_front (texts_of l.strings.items) (many (string_at l.front) l.rest) ≡ many (string_at l.front) l.text;
  shorter : length l.strings.items + length l.rest ≤ length l.text;
}

abbrev pub decreases-loop-strings : goal.decreases-loop-strings
decreases-loop-strings l = length l.rest
