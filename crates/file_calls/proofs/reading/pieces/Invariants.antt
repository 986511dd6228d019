-- The pieces so far.
use Rattle.std.proofs.Common.{◌≡◌, map}
use Rattle.std.specs.List.{range_with_len}
use Rattle.call_log.specs.Sent.{piece_at}
use Rattle.file_calls.specs.Outcomes.{span_of}
use Rattle.file_calls.proofs.reading.pieces.Given as goal

abbrev pub invariant-loop-i : goal.invariant-loop-i
invariant-loop-i l = map span_of l.pieces.items ≡ map (piece_at l.bytes) (range_with_len 0 l.i)
