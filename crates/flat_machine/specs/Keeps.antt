-- What a step of a run asks, and what each keeps.
use Rattle.std.specs.Prelude.{◌≡◌, ◌+◌, ◌<◌, ◌≤◌, ◌^◌, ℕ, true, false, List, Some, Result, OnErr}
use Rattle.std.specs.declared.alloc.AllocError.{AllocError}
use Rattle.page_runs.specs.declared.place.Kind.{Kind}
use Rattle.byte_words.specs.declared.access.Access.{Access}
use Rattle.rv32im_step.specs.declared.stop.Stop.{Stop}
use Rattle.rv32im_step.specs.declared.stop.Stop.TheVariants.{Call}
use Rattle.vfork_exec.specs.Procs.{CanRun}
use Rattle.machine_world.specs.Courses.{StandsAt}
use Rattle.memory_world.specs.Physical.{first_stray_in, has_stray}
use Rattle.memory_world.specs.Courses.{StandsIn}
use Rattle.region_watch.specs.declared.mode.Mode.TheVariants.{Halt, GoOn}
use Rattle.kept_parts.specs.Flats.{ForRuns}
use Rattle.kept_parts.specs.InMemory.{headers_of, physical_of}
use Rattle.kept_parts.specs.Reach.{reach_of}
use Rattle.kept_parts.specs.Stands.{About, world_of}
use Rattle.syscall_layer.specs.Parts.{RunParts}
use Rattle.flat_machine.specs.declared.turn.After.{After}
use Rattle.flat_machine.specs.LeavesIn.{StandsWithin}
use Rattle.flat_machine.specs.State.{State, world}

-- ---- the parts

-- each step keeps the programs and the mode, and marks a stray access as noted exactly where the notes have one
pub record KeepsRun (old new : RunParts) : Type 0 where
  pub programs : new.programs ≡ old.programs
  pub mode : new.mode ≡ old.mode
  pub noted : new.noted ≡ has_stray new.kept.notes

-- an event so; out of memory it keeps all
pub record EventKeeps (old new : RunParts) (result : Result After AllocError) : Type 0 where
  pub keeps : KeepsRun old new
  pub unchanged : OnErr result (new ≡ old)

-- a turn so, of no more than so many events
pub record TurnKeeps (count : ℕ) (old : RunParts) (events : ℕ) (new : RunParts) : Type 0 where
  pub keeps : KeepsRun old new
  pub within : events ≤ count

-- instructions of a process so: no more than so many; it may still run; they note nothing; and where none was carried out all stays
pub record StepsKeep (pid count : ℕ) (old : RunParts) (done : ℕ) (new : RunParts) : Type 0 where
  pub keeps : KeepsRun old new
  pub ready : CanRun new.kept.procs pid
  pub within : done ≤ count
  pub notes : new.kept.notes ≡ old.kept.notes
  pub still : done ≡ 0 → new ≡ old

-- the process may run, and a run that ends at its first stray access noted none yet
pub record MayGo (parts : RunParts) (pid : ℕ) : Type 0 where
  pub ready : CanRun parts.kept.procs pid
  pub halting : parts.mode ≡ Halt → has_stray parts.kept.notes ≡ false

-- and stands at a step that ends so, in its private space as long as nothing strayed, and in memory within what is reached
pub record StandsTo (stop : Stop) (parts : RunParts) (pid : ℕ) : Type 0 where
  pub may : MayGo parts pid
  pub noted : parts.noted ≡ has_stray parts.kept.notes
  pub own : has_stray parts.kept.notes ≡ false → (a : About) → StandsAt (world_of a parts.kept) pid stop
  pub memory : (headers : List (List ℕ)) → (a : About) → StandsWithin (reach_of parts.noted) (physical_of headers a parts.kept) pid stop

-- so at a system call
pub record StandsToCall (parts : RunParts) (pid : ℕ) : Type 0 where
  pub may : MayGo parts pid
  pub own : has_stray parts.kept.notes ≡ false → (a : About) → StandsAt (world_of a parts.kept) pid Call
  pub memory : (headers : List (List ℕ)) → (a : About) → StandsIn (physical_of headers a parts.kept) pid Call

-- its run goes on behind the note of a stray access
pub record GoesBehind (parts : RunParts) (pid : ℕ) : Type 0 where
  pub ready : CanRun parts.kept.procs pid
  pub goes_on : parts.mode ≡ GoOn
  pub strayed : has_stray parts.kept.notes ≡ true

-- its next access is the first of the run that strays: none was noted, and where the run goes on all of memory tells it too
pub record FirstStrays (kind : Kind) (parts : RunParts) (pid : ℕ) (access : Access) : Type 0 where
  pub ready : CanRun parts.kept.procs pid
  pub noted : parts.noted ≡ has_stray parts.kept.notes
  pub quiet : has_stray parts.kept.notes ≡ false
  pub first : parts.mode ≡ GoOn → ForRuns kind parts.programs (λ a. first_stray_in (physical_of (headers_of parts.programs) a parts.kept) pid ≡ Some access)

-- ---- the machine

-- a run may go on: free runs are chosen as at the boot, and the count of events has room for so many more
pub record RunFits (chosen : Kind) (most : ℕ) (s : State) : Type 0 where
  pub kind : chosen ≡ s.kind
  pub events : s.events + most < 2 ^ 64

-- so do its turns; and if it ends at its first stray access it noted none yet
pub record TurnsFit (chosen : Kind) (most : ℕ) (s : State) : Type 0 where
  pub kind : chosen ≡ s.kind
  pub events : s.events + most < 2 ^ 64
  pub halting : s.mode ≡ Halt → has_stray (world s).notes ≡ false

-- a turn keeps how free runs are chosen and the mode, and counts its events, no more than so many
pub record CountsTurn (count : ℕ) (old : State) (done : ℕ) (new : State) : Type 0 where
  pub kind : new.kind ≡ old.kind
  pub mode : new.mode ≡ old.mode
  pub events : new.events ≡ old.events + done
  pub within : done ≤ count

-- so a run, of no more events than so many
pub record CountsRun (most : ℕ) (old new : State) : Type 0 where
  pub kind : new.kind ≡ old.kind
  pub mode : new.mode ≡ old.mode
  pub events : new.events ≤ old.events + most
