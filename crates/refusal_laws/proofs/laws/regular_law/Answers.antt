-- At boot, and by each event, turn and run.
use Rattle.refusal_laws.proofs.Runs.{boots_are_regular, events_keep_regular, turns_keep_regular, runs_keep_regular}
use Rattle.refusal_laws.proofs.laws.regular_law.Goals as goal

pub returns-clause-boots : goal.returns-clause-boots
returns-clause-boots c = boots_are_regular

pub returns-clause-events : goal.returns-clause-events
returns-clause-events c = events_keep_regular

pub returns-clause-turns : goal.returns-clause-turns
returns-clause-turns c = turns_keep_regular

pub returns-clause-runs : goal.returns-clause-runs
returns-clause-runs c = runs_keep_regular
