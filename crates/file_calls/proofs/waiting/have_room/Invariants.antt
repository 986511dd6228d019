-- The pieces so far are empty.
use Rattle.std.proofs.Common.{◌≡◌}
use Rattle.machine_world.specs.Transfers.{room_of}
use Rattle.file_calls.proofs.Transferred.{pieces_of}
use Rattle.file_calls.proofs.waiting.have_room.Given as goal

abbrev pub invariant-loop-i : goal.invariant-loop-i
invariant-loop-i l = room_of (pieces_of l.sent l.i) ≡ 0
