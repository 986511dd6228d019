-- What a run that goes on behind its first stray access leaves, and why it stops.
use Rattle.std.specs.Prelude.{◌≡◌, Bool, true, false, List, Some, Result, Ok, Err}
use Rattle.std.specs.declared.alloc.AllocError.{AllocError}
use Rattle.quantum_sched.specs.declared.Quantum.{Quantum}
use Rattle.byte_words.specs.declared.access.Access.{Access}
use Rattle.machine_world.specs.Turns.{turns}
use Rattle.memory_world.specs.Physical.{has_stray, turns_in}
use Rattle.flat_machine.specs.declared.run.End.{End as Told}
use Rattle.flat_machine.specs.declared.run.End.TheVariants as told
use Rattle.region_watch.specs.declared.mode.Mode.TheVariants.{Halt}
use Rattle.syscall_layer.specs.Parts.{halted_at}
use Rattle.flat_machine.specs.State.{State, world, one_memory}
use Rattle.flat_machine.specs.Runs.{Ends, Runs}
use Rattle.flat_machine.specs.LeavesIn.{StopsIn, GoesPast}

-- a run ended at a stray access
abbrev pub ends_astray : Result Told AllocError → Bool
ends_astray (Ok (told.Stray access)) = true
ends_astray other = false

-- a run that ends at its first stray access, and met none yet
pub record IsHalting (s : State) : Type 0 where
  pub halts : s.mode ≡ Halt
  pub quiet : has_stray (world s).notes ≡ false

-- the machine stands for the one memory that the turns lead to, and tells their end
abbrev pub RunsIn : List Quantum → State → State → Result Told AllocError → Type 0
RunsIn quanta old new (Ok end) = ((turns_in quanta (one_memory old)).now ≡ one_memory new) × Ends (turns_in quanta (one_memory old)).end end
RunsIn quanta old new (Err error) = StopsIn quanta (one_memory old) (one_memory new)

-- a run that goes on: up to its first stray access it is that of the private spaces; and where it met one, these end there, and all that
-- they noted and wrote stands before what came later
abbrev pub GoesOn : List Quantum → State → State → Result Told AllocError → Type 0
GoesOn quanta old new (Ok end) =
    (has_stray (world new).notes ≡ false → Runs quanta old new (Ok end)) × (has_stray (world new).notes ≡ true → GoesPast (turns quanta (world old)) (world new))
GoesOn quanta old new (Err error) = Unit {0}

-- that access is told
abbrev pub TellsAccess : Access → Result Told AllocError → Type 0
TellsAccess seen (Ok (told.Stray access)) = access ≡ seen
TellsAccess seen other = ⊥

-- a run that has ended at its first stray access stays there, and tells it again
abbrev pub RemainsHalted : State → State → Result Told AllocError → Type 0
RemainsHalted old new r = (seen : Access) → halted_at old.mode old.kept.notes ≡ Some seen → (new ≡ old) × TellsAccess seen r
