-- Each law by its proof over plain values.
use Rattle.command_laws.proofs.WatchLaws.{watches_are_runs, watches_tell_hits}
use Rattle.command_laws.proofs.run_laws.watch_law.Goals as goal

pub returns : goal.returns
returns c = record { run = watches_are_runs; report = watches_tell_hits }
