-- By the law of calls.
use Rattle.command_laws.proofs.Headline.{runs_end_by_status}
use Rattle.command_laws.proofs.run_laws.headline_law.Goals as goal

pub returns : goal.returns
returns c = runs_end_by_status
