-- By the opening world, and by each event, turn and run.
use Rattle.recording_laws.proofs.Events.{events_record}
use Rattle.recording_laws.proofs.Runs.{boots_record, turns_record, runs_record, recordings_tell}
use Rattle.recording_laws.proofs.laws.items_law.Goals as goal

pub returns-clause-boots : goal.returns-clause-boots
returns-clause-boots c = boots_record

pub returns-clause-events : goal.returns-clause-events
returns-clause-events c = events_record

pub returns-clause-turns : goal.returns-clause-turns
returns-clause-turns c = turns_record

pub returns-clause-runs : goal.returns-clause-runs
returns-clause-runs c = runs_record

pub returns-clause-tells : goal.returns-clause-tells
returns-clause-tells c = recordings_tell
