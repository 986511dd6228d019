use Rattle.memory_world.proofs.Shows.{openings_show, events_show, turns_show, runs_show}
use Rattle.memory_world.proofs.laws.shown_law.Goals as goal

pub returns-clause-openings : goal.returns-clause-openings
returns-clause-openings c = openings_show

pub returns-clause-events : goal.returns-clause-events
returns-clause-events c = events_show

pub returns-clause-turns : goal.returns-clause-turns
returns-clause-turns c = turns_show

pub returns-clause-runs : goal.returns-clause-runs
returns-clause-runs c = runs_show
