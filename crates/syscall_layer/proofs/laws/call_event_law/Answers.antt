use Rattle.syscall_layer.proofs.CallEvents.{calls_are_events}
use Rattle.syscall_layer.proofs.laws.call_event_law.Goals as goal

pub returns : goal.returns
returns c = calls_are_events
