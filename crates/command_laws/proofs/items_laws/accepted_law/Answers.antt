-- By what is said of each run.
use Rattle.command_laws.proofs.AcceptedItems.{runs_accept_items}
use Rattle.command_laws.proofs.items_laws.accepted_law.Goals as goal

pub returns : goal.returns
returns c = runs_accept_items
