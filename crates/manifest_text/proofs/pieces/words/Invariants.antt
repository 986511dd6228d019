-- The words so far.
use Rattle.std.proofs.Common.{◌≡◌, take, not}
use Rattle.std.specs.Prelude.{filter}
use Rattle.manifest_text.specs.Pieces.{is_empty}
use Rattle.manifest_text.specs.Values.{texts}
use Rattle.manifest_text.proofs.pieces.words.Given as goal

abbrev pub invariant-loop-piece : goal.invariant-loop-piece
invariant-loop-piece l = texts l.words.items ≡ filter (λ piece. not (is_empty piece)) (texts (take l.piece-index l.piece-items))
