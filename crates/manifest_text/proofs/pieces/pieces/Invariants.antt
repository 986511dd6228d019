-- The pieces so far, and those of the rest with what was read of the first.
use Rattle.std.proofs.Common.{◌≡◌, ◌-◌, ◌≤◌, ◌++◌, take, drop}
use Rattle.manifest_text.specs.Pieces.{pieces}
use Rattle.manifest_text.specs.Values.{texts}
use Rattle.manifest_text.proofs.Cutting.{glue}
use Rattle.manifest_text.proofs.pieces.pieces.Given as goal

abbrev pub invariant-loop-place : goal.invariant-loop-place
invariant-loop-place l = record {
  start : l.start ≤ l.place;
  same : texts l.pieces.items ++ glue (take (l.place - l.start) (drop l.start l.text)) (pieces l.at (drop l.place l.text)) ≡ pieces l.at l.text;
}
