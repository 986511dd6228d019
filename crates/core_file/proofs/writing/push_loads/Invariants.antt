use Rattle.std.proofs.Common.{◌≡◌, ◌+◌, ◌<◌, ◌^◌, ◌++◌, length, drop}
use Rattle.core_file.specs.Text.{bytes_of, loads_text}
use Rattle.core_file.specs.Code.{segment_values}
use Rattle.core_file.proofs.writing.push_loads.Given as goal

abbrev pub invariant-loop-segment : goal.invariant-loop-segment
invariant-loop-segment l = record {
  written : l.out.items ++ loads_text l.at (segment_values (drop l.segment-index l.segments)) ≡ l.fn.out.items ++ loads_text l.fn.offset (segment_values l.segments);
  fit : l.at + length (bytes_of (segment_values (drop l.segment-index l.segments))) < 2 ^ 32;
}
