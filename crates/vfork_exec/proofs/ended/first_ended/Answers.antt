-- The rest begins with the child, or with none.
use Rattle.std.proofs.Common.{true, false, sym, ap, ◌∙◌, drop_of_length-le}
use Rattle.vfork_exec.specs.Families.{first_ended}
use Rattle.vfork_exec.proofs.Families.{first_ended_at}
use Rattle.vfork_exec.proofs.ended.first_ended.Goals as goal

pub returns-then-is_child : goal.returns-then-is_child
returns-then-is_child c =
    sym (first_ended_at c.args.own c.args.who c.args.ended.now c.loop-child.child-index _ true c.loop-child-test.true (sym c.is_child.ensures ∙ c.if-is_child.true)) ∙ c.loop-child.invariant

pub loop-child-preserved : goal.loop-child-preserved
loop-child-preserved c =
    sym (first_ended_at c.args.own c.args.who c.args.ended.now c.loop-child.child-index _ false c.loop-child-test.true (sym c.is_child.ensures ∙ c.if-is_child.false)) ∙ c.loop-child.invariant

pub returns : goal.returns
unfolding first_ended
returns c = sym (ap (first_ended c.args.own c.args.who) (drop_of_length-le c.args.ended.now c.loop-child-test.false)) ∙ c.loop-child.invariant
