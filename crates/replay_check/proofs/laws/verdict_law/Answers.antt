use Rattle.replay_check.proofs.Judged.{all_judged}
use Rattle.replay_check.proofs.laws.verdict_law.Goals as goal

pub returns : goal.returns
returns c = all_judged
