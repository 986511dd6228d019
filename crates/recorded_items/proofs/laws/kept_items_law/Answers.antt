-- By the opening world, and by each event.
use Rattle.recorded_items.proofs.KeptItems.{items_are_of_the_stay, items_are_spelled}
use Rattle.recorded_items.proofs.laws.kept_items_law.Goals as goal

pub returns-clause-stays : goal.returns-clause-stays
returns-clause-stays c = items_are_of_the_stay

pub returns-clause-spelled : goal.returns-clause-spelled
returns-clause-spelled c = items_are_spelled
