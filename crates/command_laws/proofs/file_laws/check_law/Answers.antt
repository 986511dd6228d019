-- Each law by its proof over plain values.
use Rattle.command_laws.proofs.CheckLaws.{check_asks_one_load, check_is_done, check_is_refused, check_completes}
use Rattle.command_laws.proofs.FaultLines.{lines_begin_with_tails}
use Rattle.command_laws.proofs.file_laws.check_law.Goals as goal

pub returns : goal.returns
returns c = record { one_load = check_asks_one_load; done = check_is_done; refused = check_is_refused; tails = lines_begin_with_tails; complete = check_completes }
