-- The rest has the one that the whole list has.
use Rattle.std.proofs.Common.{◌≡◌, drop}
use Rattle.vfork_exec.specs.Families.{first_ended}
use Rattle.vfork_exec.proofs.ended.first_ended.Given as goal

abbrev pub invariant-loop-child : goal.invariant-loop-child
invariant-loop-child l = first_ended l.own l.who (drop l.child-index l.ended) ≡ first_ended l.own l.who l.ended
