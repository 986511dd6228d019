-- ENOMEM is for want of a run.
use Rattle.refusals_in_memory.proofs.Enomem.{enomem_is_exact_in}
use Rattle.refusals_in_memory.proofs.laws.enomem_in_memory_law.Goals as goal

pub returns : goal.returns
returns c = enomem_is_exact_in
