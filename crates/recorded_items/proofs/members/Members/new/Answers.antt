-- No process is in a space before the first note.
use Rattle.recorded_items.proofs.Homes.{at_first}
use Rattle.recorded_items.proofs.members.Members.new.Goals as goal

pub returns : goal.returns
returns c = at_first c.args.space c.new.result c.new.ensures.empty
