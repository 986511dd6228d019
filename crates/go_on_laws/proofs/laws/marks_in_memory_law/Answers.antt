-- By the events, one after the other.
use Rattle.go_on_laws.proofs.Marked.{openings_have_no_mark, events_have_no_mark, turns_have_no_mark, runs_have_no_mark}
use Rattle.go_on_laws.proofs.laws.marks_in_memory_law.Goals as goal

pub returns-clause-openings : goal.returns-clause-openings
returns-clause-openings c = openings_have_no_mark

pub returns-clause-events : goal.returns-clause-events
returns-clause-events c = events_have_no_mark

pub returns-clause-turns : goal.returns-clause-turns
returns-clause-turns c = turns_have_no_mark

pub returns-clause-runs : goal.returns-clause-runs
returns-clause-runs c = runs_have_no_mark
