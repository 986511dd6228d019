-- None of the ranges before strays.
use Rattle.std.proofs.Common.{true, map, drop}
use Rattle.call_log.specs.Values.{got_value}
use Rattle.mmap_rules.specs.Owners.{owns}
use Rattle.replay_check.proofs.Output.{Testing}
use Rattle.replay_check.proofs.memory.may_put.Given as goal

abbrev pub invariant-loop-range : goal.invariant-loop-range
invariant-loop-range l = Testing (owns l.owners true) (map got_value l.got) (map got_value (drop l.range-index l.got))
