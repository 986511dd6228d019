use Rattle.memory_world.proofs.Growth.{events_add, turns_add, runs_add}
use Rattle.memory_world.proofs.laws.notes_remain_law.Goals as goal

pub returns-clause-events : goal.returns-clause-events
returns-clause-events c = events_add

pub returns-clause-turns : goal.returns-clause-turns
returns-clause-turns c = turns_add

pub returns-clause-runs : goal.returns-clause-runs
returns-clause-runs c = runs_add
