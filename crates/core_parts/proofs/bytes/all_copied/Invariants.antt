use Rattle.std.proofs.Common.{◌≡◌, map, take}
use Rattle.core_parts.specs.Tables.{segment_in}
use Rattle.core_parts.specs.Code.{interval_value, copy_value}
use Rattle.core_parts.proofs.bytes.all_copied.Given as goal

abbrev pub invariant-loop-interval : goal.invariant-loop-interval
invariant-loop-interval l = map copy_value l.copies.items ≡ map (λ i. segment_in l.mem (interval_value i)) (take l.interval-index l.intervals)
