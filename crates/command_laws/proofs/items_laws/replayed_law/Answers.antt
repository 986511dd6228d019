-- By what is said of each run.
use Rattle.command_laws.proofs.ReplayedItems.{stored_items_replay}
use Rattle.command_laws.proofs.items_laws.replayed_law.Goals as goal

pub returns : goal.returns
returns c = stored_items_replay
