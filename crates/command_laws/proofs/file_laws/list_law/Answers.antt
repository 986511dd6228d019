-- Each law by its proof over plain values.
use Rattle.command_laws.proofs.ListLaws.{list_asks_one_load, list_is_done, list_is_refused, list_completes}
use Rattle.command_laws.proofs.file_laws.list_law.Goals as goal

pub returns : goal.returns
returns c = record { one_load = list_asks_one_load; done = list_is_done; refused = list_is_refused; complete = list_completes }
