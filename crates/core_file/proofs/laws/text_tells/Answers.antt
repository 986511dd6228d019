use Rattle.core_file.proofs.Tells as tells
use Rattle.core_file.proofs.laws.text_tells.Goals as goal

pub returns : goal.returns
returns c = tells.text_tells
