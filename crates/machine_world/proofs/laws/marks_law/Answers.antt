-- By the events, one after the other.
use Rattle.machine_world.proofs.Marks.{boots_leave_no_mark, events_leave_no_mark, turns_leave_no_mark, runs_leave_no_mark}
use Rattle.machine_world.proofs.laws.marks_law.Goals as goal

pub returns-clause-boots : goal.returns-clause-boots
returns-clause-boots c = boots_leave_no_mark

pub returns-clause-events : goal.returns-clause-events
returns-clause-events c = events_leave_no_mark

pub returns-clause-turns : goal.returns-clause-turns
returns-clause-turns c = turns_leave_no_mark

pub returns-clause-runs : goal.returns-clause-runs
returns-clause-runs c = runs_leave_no_mark
