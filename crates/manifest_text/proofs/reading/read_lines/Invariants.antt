-- The manifest so far is that of the lines so far, and the first fault is one of the rest.
use Rattle.std.proofs.Common.{◌≡◌, [], take, drop}
use Rattle.manifest_text.specs.Values.{texts}
use Rattle.manifest_text.specs.Manifest.{draft_of, all_said, first_fault, numbered}
use Rattle.manifest_text.specs.Reading.{draft_value}
use Rattle.manifest_text.proofs.reading.read_lines.Given as goal

abbrev pub invariant-loop-place : goal.invariant-loop-place
invariant-loop-place l =
    let lines = numbered 1 (texts l.lines) in
    record {
      draft : draft_value l.draft ≡ draft_of (all_said (take l.place lines));
      fault : first_fault (take l.place lines) (drop l.place lines) ≡ first_fault [] lines;
    }
