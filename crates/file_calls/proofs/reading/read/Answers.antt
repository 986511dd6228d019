-- One piece.
use Rattle.file_calls.proofs.Transferred.{read_row_is, waits_same}
use Rattle.file_calls.proofs.reading.read.Goals as goal

pub returns-clause-gives : goal.returns-clause-gives
returns-clause-gives c = waits_same _ _ _ _ _ _ (λ a made. read_row_is _ a made) c.read_into.ensures.gives
