-- Each law by its proof over plain values.
use Rattle.command_laws.proofs.TraceLaws.{pids_are_spelled, traces_are_runs, traces_tell_notes}
use Rattle.command_laws.proofs.trace_laws.trace_law.Goals as goal

pub returns : goal.returns
returns c = record { spelled = pids_are_spelled; run = traces_are_runs; report = traces_tell_notes }
