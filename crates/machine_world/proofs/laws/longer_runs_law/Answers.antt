-- By the first quantum of the list.
use Rattle.machine_world.proofs.LongerRuns.{runs_go_on}
use Rattle.machine_world.proofs.laws.longer_runs_law.Goals as goal

pub returns : goal.returns
returns c = runs_go_on
