-- What is filled so far, and what is left of the bytes and of the pieces.
use Rattle.std.proofs.Common.{◌≡◌, ◌++◌, map, drop}
use Rattle.call_log.specs.Values.{got_value}
use Rattle.machine_world.specs.Transfers.{scattered}
use Rattle.file_calls.specs.Outcomes.{span_of}
use Rattle.file_calls.proofs.reading.scattered.Given as goal

abbrev pub invariant-loop-piece : goal.invariant-loop-piece
invariant-loop-piece l = map got_value l.got.items ++ scattered l.left (map span_of (drop l.piece-index l.pieces)) ≡ scattered l.bytes (map span_of l.pieces)
