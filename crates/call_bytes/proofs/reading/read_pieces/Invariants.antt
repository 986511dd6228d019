use Rattle.std.proofs.Common.{◌≡◌, ◌-◌, ◌*◌, length}
use Rattle.std.specs.Prelude.{map}
use Rattle.std.specs.List.{range_with_len}
use Rattle.call_log.specs.Sent.{read_spans, piece_spans}
use Rattle.region_watch.specs.Private.{own_bytes}
use Rattle.call_bytes.specs.Reading.{appended}
use Rattle.call_bytes.proofs.ReadRanges.{piece_span}
use Rattle.call_bytes.proofs.reading.read_pieces.Given as goal

-- what was read and what is left give the whole
abbrev pub invariant-loop-i : goal.invariant-loop-i
invariant-loop-i l = record {
  read : appended l.pieces.items (read_spans (own_bytes l.owners l.mem) (map (piece_span l.at) (range_with_len l.i (l.count - l.i))))
      ≡ read_spans (own_bytes l.owners l.mem) (piece_spans l.at l.count);
  len : length l.pieces.items ≡ 8 * l.i;
}
