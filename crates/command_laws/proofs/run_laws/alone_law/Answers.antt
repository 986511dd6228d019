-- By what is said of each run.
use Rattle.command_laws.proofs.BootedRuns.{does_as_alone, ends_as_alone}
use Rattle.command_laws.proofs.RunLaws.{reasonable}
use Rattle.command_laws.proofs.run_laws.alone_law.Goals as goal

pub returns : goal.returns
returns c = record { lives = λ inputs name keep kind o. does_as_alone (reasonable o) o.booted; ends = λ inputs name keep kind o. ends_as_alone (reasonable o) o.booted }
