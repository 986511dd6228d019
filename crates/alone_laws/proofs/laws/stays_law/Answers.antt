-- The first stays are right, and every event, turn and run keeps them so.
use Rattle.alone_laws.proofs.StaysRuns.{boots_begin_stays, events_keep_stays, turns_keep_stays, runs_keep_stays}
use Rattle.alone_laws.proofs.laws.stays_law.Goals as goal

pub returns-clause-boots : goal.returns-clause-boots
returns-clause-boots c = boots_begin_stays

pub returns-clause-events : goal.returns-clause-events
returns-clause-events c = events_keep_stays

pub returns-clause-turns : goal.returns-clause-turns
returns-clause-turns c = turns_keep_stays

pub returns-clause-runs : goal.returns-clause-runs
returns-clause-runs c = runs_keep_stays
