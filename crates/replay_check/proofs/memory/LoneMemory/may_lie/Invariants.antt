-- What is left lies where all does.
use Rattle.flat_loader.specs.Alone.{new_bytes}
use Rattle.replay_check.proofs.NewRanges.{LeftOf}
use Rattle.replay_check.proofs.memory.LoneMemory.may_lie.Given as goal

abbrev pub invariant-loop-page : goal.invariant-loop-page
invariant-loop-page l = LeftOf l.self l.range.writes l.range.from (new_bytes l.range l.brought) l.page
