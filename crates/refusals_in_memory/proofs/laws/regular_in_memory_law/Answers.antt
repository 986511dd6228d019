-- At boot, and by each event, turn and run.
use Rattle.refusals_in_memory.proofs.StaysRegular.{boots_are_regular_in, events_keep_regular_in, turns_keep_regular_in, runs_keep_regular_in}
use Rattle.refusals_in_memory.proofs.laws.regular_in_memory_law.Goals as goal

pub returns-clause-boots : goal.returns-clause-boots
returns-clause-boots c = boots_are_regular_in

pub returns-clause-events : goal.returns-clause-events
returns-clause-events c = events_keep_regular_in

pub returns-clause-turns : goal.returns-clause-turns
returns-clause-turns c = turns_keep_regular_in

pub returns-clause-runs : goal.returns-clause-runs
returns-clause-runs c = runs_keep_regular_in
