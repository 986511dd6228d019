-- One more piece.
use Rattle.file_calls.proofs.Transferred.{pieces_more}
use Rattle.file_calls.proofs.reading.pieces.Goals as goal

pub loop-i-preserved : goal.loop-i-preserved
loop-i-preserved c = pieces_more _ _ _ c.args.bytes.now c.loop-i.i c.in_ok-push.ensures.items c.word_in.ensures c.word_in-in-loop-i.ensures c.loop-i.invariant
