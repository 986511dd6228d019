-- At boot, and by each event, turn and run.
use Rattle.go_on_laws.proofs.Boots.{boots_go_on, boots_note_no_stray}
use Rattle.go_on_laws.proofs.Events.{events_go_on, full_events_go_on}
use Rattle.go_on_laws.proofs.Walks.{turns_go_on, runs_go_on}
use Rattle.go_on_laws.proofs.NeverStrays.{runs_never_stray}
use Rattle.go_on_laws.proofs.laws.go_on_law.Goals as goal

pub returns-clause-boots : goal.returns-clause-boots
returns-clause-boots c = boots_go_on

pub returns-clause-unstrayed : goal.returns-clause-unstrayed
returns-clause-unstrayed c = boots_note_no_stray

pub returns-clause-events : goal.returns-clause-events
returns-clause-events c = events_go_on

pub returns-clause-full : goal.returns-clause-full
returns-clause-full c = full_events_go_on

pub returns-clause-turns : goal.returns-clause-turns
returns-clause-turns c = turns_go_on

pub returns-clause-runs : goal.returns-clause-runs
returns-clause-runs c = runs_go_on

pub returns-clause-never : goal.returns-clause-never
returns-clause-never c = runs_never_stray
