-- Each errno is a refusal.
use Rattle.refusal_laws.proofs.Refusals.{errnos_are_refusals}
use Rattle.refusal_laws.proofs.laws.refusals_law.Goals as goal

pub returns : goal.returns
returns c = errnos_are_refusals
