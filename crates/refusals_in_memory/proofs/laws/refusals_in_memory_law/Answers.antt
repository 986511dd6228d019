-- Each errno is a refusal.
use Rattle.refusals_in_memory.proofs.Errnos.{errnos_are_refused_in}
use Rattle.refusals_in_memory.proofs.laws.refusals_in_memory_law.Goals as goal

pub returns : goal.returns
returns c = errnos_are_refused_in
