-- The pid and the name from the front, and the reply from the end.
use Rattle.trace_text.proofs.ReadBack.{lines_tell}
use Rattle.trace_text.proofs.laws.lines_law.Goals as goal

pub returns : goal.returns
returns c = lines_tell
