-- All are names where those of the rest are, with what was read of the first.
use Rattle.std.proofs.Common.{◌≡◌, ◌-◌, ◌≤◌, take, drop}
use Rattle.std.specs.List.{list_all}
use Rattle.manifest_text.specs.Pieces.{pieces}
use Rattle.manifest_text.specs.Paths.{slash, is_name}
use Rattle.manifest_text.proofs.Cutting.{glue}
use Rattle.manifest_text.proofs.paths.are_names.Given as goal

abbrev pub invariant-loop-place : goal.invariant-loop-place
invariant-loop-place l = record {
  start : l.start ≤ l.place;
  same : list_all is_name (glue (take (l.place - l.start) (drop l.start l.names)) (pieces slash (drop l.place l.names))) ≡ list_all is_name (pieces slash l.names);
}
