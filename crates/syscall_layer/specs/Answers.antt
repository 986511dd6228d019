-- What comes of a system call, by the mode in which its accesses are watched.
use Rattle.std.specs.Prelude.{◌≡◌, ℕ, true, false, List, [], Result, Ok, IfOk}
use Rattle.std.specs.declared.alloc.AllocError.{AllocError}
use Rattle.bflt_format.specs.Values.{Values}
use Rattle.page_runs.specs.declared.place.Kind.{Kind}
use Rattle.byte_words.specs.declared.access.Access.{Access}
use Rattle.region_watch.specs.declared.mode.Mode.{Mode}
use Rattle.region_watch.specs.declared.mode.Mode.TheVariants.{Halt}
use Rattle.machine_world.specs.Event.{Outcome, called}
use Rattle.memory_world.specs.Physical.{After, called_in, has_stray}
use Rattle.file_calls.specs.declared.call.Call.{Call}
use Rattle.kept_parts.specs.declared.served.Served.{Served}
use Rattle.kept_parts.specs.declared.served.Served.TheVariants.{TurnEnds, Waits, Stray}
use Rattle.kept_parts.specs.Kept.{Kept}
use Rattle.kept_parts.specs.Calls.{Caller}
use Rattle.kept_parts.specs.Copies.{HoldsFiles, StillHolds}
use Rattle.kept_parts.specs.Flats.{ForRuns}
use Rattle.kept_parts.specs.InMemory.{headers_of, physical_of, InReach}
use Rattle.kept_parts.specs.Serves.{Serves, Tells, WaitsAt}
use Rattle.kept_parts.specs.Stands.{About, world_of}

-- a call that is read, by what comes of it in the world of private spaces and in the one memory: within its process's own bytes it serves
-- as that world does, and live copies that held their files still do; as far as it reaches it leaves the one memory so; and what its answer
-- alone tells
pub record Answers (mode : Mode) (call : Call) (old new : Kept) (outcome : (a : About) → Caller old call → Outcome) (after : List (List ℕ) → (a : About) → Caller old call → After) (result : Result Served AllocError) : Type 0 where
  pub serves : mode ≡ Halt → (a : About) → (c : Caller old call) → Serves a (outcome a c) old new call.pid result
  pub memory : (headers : List (List ℕ)) → (a : About) → (c : Caller old call) → InReach mode headers a (after headers a c) old new call.pid result
  pub holds : mode ≡ Halt → HoldsFiles old → HoldsFiles new
  pub leaves : IfOk result (Tells old new call.pid)

-- the same in every run that has these programs, and in which live copies held their files
pub record AnswersIn (mode : Mode) (kind : Kind) (flats : List Values) (call : Call) (old new : Kept) (outcome : (a : About) → Caller old call → Outcome) (after : (a : About) → Caller old call → After) (result : Result Served AllocError) : Type 0 where
  pub serves : mode ≡ Halt → ForRuns kind flats (λ a. StillHolds old → (c : Caller old call) → Serves a (outcome a c) old new call.pid result)
  pub memory : ForRuns kind flats (λ a. (c : Caller old call) → InReach mode (headers_of flats) a (after a c) old new call.pid result)
  pub holds : mode ≡ Halt → HoldsFiles old → HoldsFiles new

-- the call at which a process stands
pub record ServesWithin (mode : Mode) (kind : Kind) (flats : List Values) (pid : ℕ) (old new : Kept) (result : Result Served AllocError) : Type 0 where
  pub serves : mode ≡ Halt → ForRuns kind flats (λ a. StillHolds old → Serves a (called (world_of a old) pid) old new pid result)
  pub memory : ForRuns kind flats (λ a. InReach mode (headers_of flats) a (called_in (physical_of (headers_of flats) a old) pid) old new pid result)
  pub holds : mode ≡ Halt → HoldsFiles old → HoldsFiles new

-- ---- by the answer alone

-- a stray access changed nothing; who ends its turn doesn't wait, and who waits does, without a note
pub record ToldOf (pid : ℕ) (old new : Kept) (result : Result Served AllocError) : Type 0 where
  pub stray : (access : Access) → result ≡ Ok (Stray access) → new ≡ old
  pub yields : result ≡ Ok TurnEnds → WaitsAt new.procs pid false
  pub waits : result ≡ Ok Waits → old.files.changed ≡ [] → WaitsAt new.procs pid true
  pub unnoted : result ≡ Ok Waits → new.notes ≡ old.notes

-- who ends its turn doesn't wait, and who waits does
pub record WaitsAsTold (pid : ℕ) (new : Kept) (result : Result Served AllocError) : Type 0 where
  pub yields : result ≡ Ok TurnEnds → WaitsAt new.procs pid false
  pub waits : result ≡ Ok Waits → WaitsAt new.procs pid true

-- ---- what stays

-- whether a stray access was noted, and that no pipe is marked
pub record KeepsMarks (old new : Kept) : Type 0 where
  pub notes : has_stray new.notes ≡ has_stray old.notes
  pub marks : old.files.changed ≡ [] → new.files.changed ≡ []
