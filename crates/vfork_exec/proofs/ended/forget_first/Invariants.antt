-- The rest has the one that goes.
use Rattle.std.proofs.Common.{◌≡◌, ◌++◌, take, drop}
use Rattle.vfork_exec.specs.Families.{without_first}
use Rattle.vfork_exec.proofs.ended.forget_first.Given as goal

abbrev pub invariant-loop-at : goal.invariant-loop-at
invariant-loop-at l = (l.ended ≡ l.fn.ended) × (take l.at l.ended.items ++ without_first l.own l.who (drop l.at l.ended.items) ≡ without_first l.own l.who l.ended.items)
