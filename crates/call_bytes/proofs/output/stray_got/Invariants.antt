-- None of the ranges before strays.
use Rattle.std.proofs.Common.{◌≡◌, true, map, drop}
use Rattle.call_log.specs.Values.{got_value}
use Rattle.mmap_rules.specs.Owners.{owns}
use Rattle.call_bytes.specs.Puts.{stray_range}
use Rattle.call_bytes.proofs.output.stray_got.Given as goal

abbrev pub invariant-loop-range : goal.invariant-loop-range
invariant-loop-range l =
    stray_range (owns l.owners true) (map got_value (drop l.range-index l.got)) ≡ stray_range (owns l.owners true) (map got_value l.got)
