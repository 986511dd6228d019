-- The report's line, up to its newline.
use Rattle.items_text.proofs.OneFault.{lines_reported}
use Rattle.items_text.proofs.laws.lines_law.Goals as goal

pub returns : goal.returns
returns c = lines_reported
