-- A command that goes on with one file.
use Rattle.std.proofs.Common.{ℕ, List, None}
use Rattle.host_io.specs.Host.{Told}
use Rattle.file_commands.specs.Ending.{Ending}
use Rattle.file_commands.specs.Outcome.{Outcome}
use Rattle.file_commands.specs.OneFile.{file_limit, with_file}
use Rattle.file_commands.specs.FileLoad.{GaveFile}
use Rattle.file_commands.specs.Observed.{Observed}
use Rattle.file_commands.specs.HostCourse.{Performs, PerformsCommand}
use Rattle.file_commands.proofs.HostSteps.{for_any_inputs, performs_rest}

pub performs_file : (name : List ℕ) (rest : List ℕ → Outcome) (old mid new : Observed Told) (bytes : List ℕ) (ending : Ending)
    → GaveFile file_limit old mid name bytes → Performs mid new (rest bytes) ending → PerformsCommand old new (λ inputs. with_file name (inputs 0 name) rest) ending
performs_file name rest old mid new bytes ending given performs =
    performs_rest file_limit None name (λ e inputs. rest e) old mid new bytes ending given (for_any_inputs mid new (λ inputs. rest bytes) ending (λ inputs. performs))
