-- The load of a file that a command goes on with: what it leaves, and what it gives.
use Rattle.std.specs.Prelude.{◌≡◌, ℕ, ◌≤◌, List, length, Option, Some, option_map, IfSome, Result, Ok, Err, Vec}
use Rattle.std.specs.FinMap.{get}
use Rattle.host_io.specs.Host.{Told}
use Rattle.file_commands.specs.declared.ended.Ended.{Ended}
use Rattle.file_commands.specs.Ending.{Ending}
use Rattle.file_commands.specs.Outcome.{load, Outcome, Inputs}
use Rattle.file_commands.specs.Load.{with_load}
use Rattle.file_commands.specs.Answer.{ending_at}
use Rattle.file_commands.specs.Observed.{Observed}
use Rattle.file_commands.specs.HostCourse.{after_answer, PerformsCommand}

-- the host answered with this file, which isn't too long
pub record GaveFile (limit : ℕ) (old new : Observed Told) (name bytes : List ℕ) : Type 0 where
  pub told : new.told ≡ option_map (λ t. after_answer t (load name)) old.told
  pub faults : new.faults ≡ old.faults
  pub file : IfSome old.told (λ t. get t.files name ≡ Some bytes)
  pub fits : length bytes ≤ limit

-- whatever a command would do with the file, this is its ending
abbrev pub EndsWithout : ℕ → Option ℕ → Observed Told → Observed Told → List ℕ → Ending → Type 0
EndsWithout limit line old new name ending = (rest : List ℕ → Inputs → Outcome) → PerformsCommand old new (with_load limit line name rest) ending

abbrev pub LoadsFile : {Y : Type 0} → ℕ → Option ℕ → Observed Told → Observed Told → List ℕ → Result (Vec ℕ Y) Ended → Type 0
LoadsFile limit line old new name (Ok bytes) = GaveFile limit old new name bytes.items
LoadsFile limit line old new name (Err ended) = EndsWithout limit line old new name (ending_at ended)
