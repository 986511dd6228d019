-- For want of a run alone, and for each want of a run.
use Rattle.refusal_laws.proofs.Refusals.{enomem_is_exact}
use Rattle.refusal_laws.proofs.laws.enomem_law.Goals as goal

pub returns : goal.returns
returns c = enomem_is_exact
