-- The bytes so far.
use Rattle.std.proofs.Common.{◌≡◌, take, map, sum, length}
use Rattle.call_log.specs.Values.{got_value}
use Rattle.trace_text.specs.Counts.{kept}
use Rattle.trace_text.proofs.counting.got_len.Given as goal

abbrev pub invariant-loop-got : goal.invariant-loop-got
invariant-loop-got l = l.len ≡ kept (sum (map (λ w. length w.bytes) (map got_value (take l.got-index l.got-items))))
