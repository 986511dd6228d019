-- The bytes so far.
use Rattle.std.proofs.Common.{◌≡◌, ◌-◌, ◌^◌, min, take, map}
use Rattle.call_log.specs.Values.{got_value}
use Rattle.call_bytes.specs.Puts.{got_len}
use Rattle.call_bytes.proofs.output.got_len.Given as goal

abbrev pub invariant-loop-range : goal.invariant-loop-range
invariant-loop-range l = l.len ≡ min (got_len (map got_value (take l.range-index l.got))) (2 ^ 64 - 1)
