-- The command ends as its steps do.
use Rattle.suite_top.proofs.run.run_file.Goals as goal

pub returns-clause-performs : goal.returns-clause-performs
returns-clause-performs g c = rw c.settled.ensures c.run_manifest-steps.ensures.performs

pub returns-clause-held : goal.returns-clause-held
returns-clause-held g c = rw c.settled.ensures c.run_manifest-steps.ensures.held
