-- By a call as it is carried out, and by its event.
use Rattle.go_on_laws.proofs.Refused.{refusals_leave_memory, refused_events_leave_memory}
use Rattle.go_on_laws.proofs.laws.refused_in_memory_law.Goals as goal

pub returns-clause-calls : goal.returns-clause-calls
returns-clause-calls c = refusals_leave_memory

pub returns-clause-events : goal.returns-clause-events
returns-clause-events c = refused_events_leave_memory
