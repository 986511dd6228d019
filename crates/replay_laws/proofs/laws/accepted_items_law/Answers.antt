-- By the run of each stay alone.
use Rattle.replay_laws.proofs.Accepted.{stays_are_accepted}
use Rattle.replay_laws.proofs.Runs.{items_are_accepted}
use Rattle.replay_laws.proofs.laws.accepted_items_law.Goals as goal

pub returns-clause-stays : goal.returns-clause-stays
returns-clause-stays c = stays_are_accepted

pub returns-clause-items : goal.returns-clause-items
returns-clause-items c = items_are_accepted
