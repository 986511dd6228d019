-- Of one start line, and of all.
use Rattle.refusal_laws.proofs.Starts.{no_run_is_exact, boots_without_run_are_exact}
use Rattle.refusal_laws.proofs.laws.no_run_law.Goals as goal

pub returns-clause-starts : goal.returns-clause-starts
returns-clause-starts c = no_run_is_exact

pub returns-clause-boots : goal.returns-clause-boots
returns-clause-boots c = boots_without_run_are_exact
