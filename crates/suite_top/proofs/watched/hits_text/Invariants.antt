-- The lines of the hits so far.
use Rattle.std.proofs.Common.{◌≡◌, take, string_bytes}
use Rattle.std.specs.List.{flat_map}
use Rattle.suite_top.specs.Watched.{hit_line}
use Rattle.suite_top.proofs.watched.hits_text.Given as goal

abbrev pub invariant-loop-hit : goal.invariant-loop-hit
invariant-loop-hit l = string_bytes l.text ≡ flat_map hit_line (take l.hit-index l.hits)
