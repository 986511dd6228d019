-- The first line with a fault ends the run.
use Rattle.suite_top.proofs.RunEndings.{refuses_line}
use Rattle.suite_top.proofs.run.bring_files.Goals as goal

pub returns-in-Err-clause-brought : goal.returns-in-Err-clause-brought
returns-in-Err-clause-brought c = refuses_line _ c.in-Err.refusal _ c.in-Err.ensures.brought c.refuse_line.ensures
