-- By the events, one after the other, and by the addresses of memory.
use Rattle.core_world.proofs.Found.{falls_have_cores, segments_fit}
use Rattle.core_world.proofs.laws.cores_law.Goals as goal

pub returns-clause-falls : goal.returns-clause-falls
returns-clause-falls c = falls_have_cores

pub returns-clause-fit : goal.returns-clause-fit
returns-clause-fit c = segments_fit
