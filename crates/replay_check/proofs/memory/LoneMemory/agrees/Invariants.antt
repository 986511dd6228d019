-- What is left lies where all does.
use Rattle.std.proofs.Common.{◌≡◌, ◌+◌, false, drop}
use Rattle.flat_loader.specs.Alone.{may_lie}
use Rattle.replay_check.specs.Ranges.{own_memory}
use Rattle.replay_check.proofs.memory.LoneMemory.agrees.Given as goal

abbrev pub invariant-loop-i : goal.invariant-loop-i
invariant-loop-i l = may_lie (own_memory l.self) false (l.addr + l.i) (drop l.i l.bytes) ≡ may_lie (own_memory l.self) false l.addr l.bytes
