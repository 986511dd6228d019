use Rattle.std.proofs.Common.{◌≡◌, ◌-◌}
use Rattle.std.specs.Prelude.{map}
use Rattle.std.specs.List.{range_with_len}
use Rattle.call_log.specs.Sent.{read_spans, data_spans, cut, piece_at}
use Rattle.region_watch.specs.Private.{own_bytes}
use Rattle.call_bytes.specs.Reading.{appended}
use Rattle.call_bytes.proofs.reading.read_data.Given as goal

-- what was read and what is left give the whole
abbrev pub invariant-loop-i : goal.invariant-loop-i
invariant-loop-i l = appended l.into.items (read_spans (own_bytes l.owners l.mem) (cut l.left (map (piece_at l.pieces) (range_with_len l.i (l.count - l.i)))))
    ≡ appended l.fn.into.items (read_spans (own_bytes l.owners l.mem) (data_spans l.count l.pieces))
