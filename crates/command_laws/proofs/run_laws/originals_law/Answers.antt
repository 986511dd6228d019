-- By the image law.
use Rattle.originals.proofs.OriginalsSame.{originals_are_same}
use Rattle.command_laws.proofs.run_laws.originals_law.Goals as goal

pub returns : goal.returns
returns c = originals_are_same
