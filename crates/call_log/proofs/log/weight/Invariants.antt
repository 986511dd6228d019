-- The bytes so far.
use Rattle.std.proofs.Common.{◌≡◌, ◌+◌, ◌-◌, ◌^◌, min, take, map, sum, length}
use Rattle.call_log.specs.Values.{got_value}
use Rattle.call_log.proofs.log.weight.Given as goal

abbrev pub invariant-loop-got : goal.invariant-loop-got
invariant-loop-got l =
    l.weight ≡ min (length l.entry.sent.items + sum (map (λ w. length w.bytes) (map got_value (take l.got-index l.got-items)))) (2 ^ 64 - 1)
