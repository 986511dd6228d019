-- By the first quantum of the list.
use Rattle.memory_world.proofs.LongerRunsIn.{runs_go_on_in}
use Rattle.memory_world.proofs.laws.longer_runs_in_law.Goals as goal

pub returns : goal.returns
returns c = runs_go_on_in
