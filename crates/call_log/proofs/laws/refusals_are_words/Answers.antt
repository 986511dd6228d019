-- By cases.
use Rattle.call_log.proofs.Refusals.{refusals}
use Rattle.call_log.proofs.laws.refusals_are_words.Goals as goal

pub returns : goal.returns
returns c = refusals
