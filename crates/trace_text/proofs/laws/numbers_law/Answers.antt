-- By one more call at a time.
use Rattle.trace_text.proofs.CountSteps.{numbers_ascend}
use Rattle.trace_text.proofs.laws.numbers_law.Goals as goal

pub returns : goal.returns
returns c = numbers_ascend
