-- The space is as it was, and nothing is brought.
use Rattle.machine_world.proofs.Refused.{refusals_change_nothing_else}
use Rattle.machine_world.proofs.laws.refused_calls_law.Goals as goal

pub returns : goal.returns
returns c = refusals_change_nothing_else
