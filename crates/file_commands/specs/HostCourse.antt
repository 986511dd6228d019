-- How far a host came with what a command requests of it, what it then tells, and what the command ends with.
use Rattle.std.specs.Prelude.{◌≡◌, ◌≢◌, ℕ, List, [], ◌∷◌, ◌++◌, Option, Some, None, option_map}
use Rattle.std.specs.FinMap.{get, insert}
use Rattle.host_io.specs.Faults.{Rose}
use Rattle.host_io.specs.Host.{Files, Told}
use Rattle.file_commands.specs.declared.status.Status.TheVariants as status
use Rattle.file_commands.specs.Ending.{Ending, memory_ending, OrMemory}
use Rattle.file_commands.specs.Outcome.{Request, load, store, name_of, failure_ending, Outcome, Inputs}
use Rattle.file_commands.specs.Observed.{Observed}

-- the host answered all requests; or it failed at the request `last`; or behind the requests `done` the call was out of memory
pub data HostCourse : Type 0 where
  complete : HostCourse
  failed : (done : List Request) (last : Request) → HostCourse
  out_of_memory : (done : List Request) → HostCourse

-- no file was stored
abbrev pub AreLoads : List Request → Type 0
AreLoads [] = Unit {0}
AreLoads (load name ∷ requests) = AreLoads requests
AreLoads (store name bytes ∷ requests) = ⊥

-- `done` is a prefix of the requests, and `last` the next one; behind a store neither the host fails nor the call is out of memory
abbrev pub IsCourseOf : List Request → HostCourse → Type 0
IsCourseOf requests complete = Unit {0}
IsCourseOf requests (failed done last) = (rest : List Request) × (requests ≡ done ++ last ∷ rest) × AreLoads done
IsCourseOf requests (out_of_memory done) = (rest : List Request) × (requests ≡ done ++ rest) × AreLoads done

-- what a host tells after a request that it answered, and after one at which it failed
abbrev pub after_answer : Told → Request → Told
after_answer t (load name) = record { files = t.files; asked = t.asked ++ name ∷ [] }
after_answer t (store name bytes) = record { files = insert t.files name bytes; asked = t.asked ++ name ∷ [] }

abbrev pub after_failure : Told → Request → Told
after_failure t request = record { files = t.files; asked = t.asked ++ name_of request ∷ [] }

abbrev pub after_answers : Told → List Request → Told
after_answers t [] = t
after_answers t (request ∷ requests) = after_answers (after_answer t request) requests

abbrev pub told_after : List Request → HostCourse → Told → Told
told_after requests complete t = after_answers t requests
told_after requests (failed done last) t = after_failure (after_answers t done) last
told_after requests (out_of_memory done) t = after_answers t done

-- the count of faults rises where the host fails, and stands else
abbrev pub FaultsAfter : HostCourse → ℕ → ℕ → Type 0
FaultsAfter complete before now = now ≡ before
FaultsAfter (failed done last) before now = Rose before now
FaultsAfter (out_of_memory done) before now = now ≡ before

-- the ending: that of the outcome, in which no load found nothing; or that of the failure; or out of memory
abbrev pub EndsAfter : Ending → HostCourse → Ending → Type 0
EndsAfter wanted complete ending = (ending ≡ wanted) × (ending.status ≢ status.HostRead)
EndsAfter wanted (failed done last) ending = OrMemory (failure_ending last) ending
EndsAfter wanted (out_of_memory done) ending = ending ≡ memory_ending

-- the host, observed before and after, took a course of this outcome, and the command has this ending
pub record Performs (old new : Observed Told) (outcome : Outcome) (ending : Ending) : Type 0 where
  pub course : HostCourse
  pub is_course : IsCourseOf outcome.requests course
  pub told : new.told ≡ option_map (told_after outcome.requests course) old.told
  pub faults : FaultsAfter course old.faults new.faults
  pub ends : EndsAfter outcome.ending course ending

-- the loads of a host that tells its files give these
abbrev pub inputs_in : Files → Inputs
inputs_in files i name = get files name

-- the loads of a host that tells nothing give some files
abbrev pub PerformsOver : Option Told → Observed Told → Observed Told → (Inputs → Outcome) → Ending → Type 0
PerformsOver (Some t) old new command ending = Performs old new (command (inputs_in t.files)) ending
PerformsOver None old new command ending = (inputs : Inputs) × Performs old new (command inputs) ending

abbrev pub PerformsCommand : Observed Told → Observed Told → (Inputs → Outcome) → Ending → Type 0
PerformsCommand old new command ending = PerformsOver old.told old new command ending
