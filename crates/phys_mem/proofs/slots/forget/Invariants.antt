-- The slots of so many words were visited.
use Rattle.phys_mem.specs.Slots.{LosesAll}
use Rattle.phys_mem.proofs.slots.forget.Given as goal

abbrev pub invariant-loop-i : goal.invariant-loop-i
invariant-loop-i l = LosesAll l.first l.words l.i l.fn.slots.items l.slots.items
