-- One piece that isn't empty is room.
use Rattle.std.proofs.Common.{arith}
use Rattle.file_calls.proofs.PipeWaits.{room_some, room_none}
use Rattle.file_calls.proofs.waiting.have_room.Goals as goal

pub returns-then-word_in-gt0 : goal.returns-then-word_in-gt0
returns-then-word_in-gt0 c = room_some c.args.sent.now c.args.count c.loop-i.i (omega arith) (omega (arith, c.word_in.ensures))

pub loop-i-preserved : goal.loop-i-preserved
loop-i-preserved c = room_none c.args.sent.now c.loop-i.i c.loop-i.invariant (omega (arith, c.word_in.ensures))
