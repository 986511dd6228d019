-- Each law by its proof over plain values.
use Rattle.command_laws.proofs.RunLaws.{runs_where_it_opens, opens_where_it_stops, runs_stop_or_end_early}
use Rattle.command_laws.proofs.run_laws.run_law.Goals as goal

pub returns : goal.returns
returns c = record { opens = runs_where_it_opens; stops = opens_where_it_stops; early = runs_stop_or_end_early }
