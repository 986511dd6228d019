-- Each law by its proof over plain values.
use Rattle.command_laws.proofs.UnromfsLaws.{unromfs_asks_one_load, unromfs_is_done, unromfs_is_refused, unromfs_completes}
use Rattle.command_laws.proofs.file_laws.unromfs_law.Goals as goal

pub returns : goal.returns
returns c = record { one_load = unromfs_asks_one_load; done = unromfs_is_done; refused = unromfs_is_refused; complete = unromfs_completes }
