-- The room so far.
use Rattle.std.proofs.Common.{◌≡◌, min, map, sum, take}
use Rattle.call_log.specs.Sent.{most_moved}
use Rattle.file_calls.specs.Outcomes.{span_of}
use Rattle.file_calls.proofs.reading.moved_len.Given as goal

abbrev pub invariant-loop-piece : goal.invariant-loop-piece
invariant-loop-piece l = l.len ≡ min (sum (map (λ span. span.len) (map span_of (take l.piece-index l.pieces)))) most_moved
