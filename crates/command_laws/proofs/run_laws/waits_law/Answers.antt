-- By what is said of each run.
use Rattle.command_laws.proofs.BootedRuns.{waits_to_the_end}
use Rattle.command_laws.proofs.RunLaws.{reasonable}
use Rattle.command_laws.proofs.run_laws.waits_law.Goals as goal

pub returns : goal.returns
returns c t name keep kind o = waits_to_the_end (reasonable o) o.booted
