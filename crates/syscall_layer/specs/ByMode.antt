-- What a system call leaves of the parts of a run, by what becomes of the run at its first stray access.
use Rattle.std.specs.Prelude.{◌≡◌, ℕ, true, false, Ok, Result}
use Rattle.std.specs.declared.alloc.AllocError.{AllocError}
use Rattle.page_runs.specs.declared.place.Kind.{Kind}
use Rattle.byte_words.specs.declared.access.Access.{Access}
use Rattle.machine_world.specs.Event.{Outcome, strays, called}
use Rattle.memory_world.specs.Physical.{called_in, has_stray}
use Rattle.region_watch.specs.declared.mode.Mode.TheVariants.{Halt, GoOn}
use Rattle.kept_parts.specs.declared.served.Served.{Served}
use Rattle.kept_parts.specs.declared.served.Served.TheVariants.{Waits, Stray}
use Rattle.kept_parts.specs.Copies.{HoldsFiles, StillHolds}
use Rattle.kept_parts.specs.Flats.{ForRuns}
use Rattle.kept_parts.specs.InMemory.{headers_of, physical_of, InReach, ServesOn, first_range, with_range}
use Rattle.kept_parts.specs.Kept.{Kept}
use Rattle.kept_parts.specs.Serves.{Serves}
use Rattle.kept_parts.specs.Stands.{About, world_of}
use Rattle.syscall_layer.specs.Parts.{RunParts}

-- it ends there: the call is that of the world of private spaces, and a stray access leaves all as it was
pub record HaltServes (kind : Kind) (pid : ℕ) (old new : RunParts) (result : Result Served AllocError) : Type 0 where
  pub serves : ForRuns kind old.programs (λ a. StillHolds old.kept → Serves a (called (world_of a old.kept) pid) old.kept new.kept pid result)
  pub within : ForRuns kind old.programs (λ a. InReach Halt (headers_of old.programs) a (called_in (physical_of (headers_of old.programs) a old.kept) pid) old.kept new.kept pid result)
  pub holds : HoldsFiles old.kept → HoldsFiles new.kept
  pub noted : new.noted ≡ old.noted
  pub stray : (access : Access) → result ≡ Ok (Stray access) → new ≡ old

-- up to the run's first stray access a call is that of the world of private spaces; and where it strays there that was noted
abbrev pub ServesFirst : About → Outcome → Kept → Kept → ℕ → Result Served AllocError → Type 0
ServesFirst a (strays access) old new pid (Ok s) = has_stray new.notes ≡ true
ServesFirst a outcome old new pid result = Serves a outcome old new pid result

-- a call over all of memory, behind the note of a stray access: it leaves the one memory so, who waits has no note, and that note stays
pub record LeavesBehind (kind : Kind) (pid : ℕ) (old new : RunParts) (result : Result Served AllocError) : Type 0 where
  pub memory : ForRuns kind old.programs (λ a. InReach GoOn (headers_of old.programs) a (called_in (physical_of (headers_of old.programs) a old.kept) pid) old.kept new.kept pid result)
  pub unnoted : result ≡ Ok Waits → new.kept.notes ≡ old.kept.notes
  pub strayed : has_stray new.kept.notes ≡ true

-- it goes on behind it: the call is that of the one memory, behind the note of its first range that strays
pub record GoOnServes (kind : Kind) (pid : ℕ) (old new : RunParts) (result : Result Served AllocError) : Type 0 where
  pub memory : ForRuns kind old.programs (λ a. ServesOn (headers_of old.programs) a old.kept new.kept pid result)
  pub unnoted : result ≡ Ok Waits → ForRuns kind old.programs (λ a. new.kept.notes ≡ (with_range pid (first_range (physical_of (headers_of old.programs) a old.kept) pid) old.kept).notes)
  pub first : has_stray old.kept.notes ≡ false → ForRuns kind old.programs (λ a. ServesFirst a (called (world_of a old.kept) pid) old.kept new.kept pid result)
