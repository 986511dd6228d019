use Rattle.std.proofs.Common.{◌≡◌, ◌++◌, drop}
use Rattle.core_file.specs.Text.{bytes_of}
use Rattle.core_file.specs.Code.{segment_values}
use Rattle.core_file.proofs.writing.push_bytes.Given as goal

abbrev pub invariant-loop-segment : goal.invariant-loop-segment
invariant-loop-segment l = l.out.items ++ bytes_of (segment_values (drop l.segment-index l.segments)) ≡ l.fn.out.items ++ bytes_of (segment_values l.segments)
