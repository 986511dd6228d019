-- What the next event, a turn and the turns of some quanta leave.
use Rattle.std.specs.Prelude.{◌≡◌, ℕ, ◌<◌, true, false, List, ◌++◌, Option, Some, None, Result, Ok, Err}
use Rattle.std.specs.declared.alloc.AllocError.{AllocError}
use Rattle.call_log.specs.Notes.{stray_note}
use Rattle.quantum_sched.specs.declared.Quantum.{Quantum}
use Rattle.vfork_exec.specs.Procs.{CanRun}
use Rattle.machine_world.specs.World.{World}
use Rattle.machine_world.specs.Event.{Outcome, went, strays, full, noted}
use Rattle.machine_world.specs.Turns.{turn, turns}
use Rattle.machine_world.specs.Courses.{Comes}
use Rattle.memory_world.specs.Growth.{Adds}
use Rattle.kept_parts.specs.Kept.{Kept}
use Rattle.kept_parts.specs.Stands.{About, later, world_of}
use Rattle.flat_machine.specs.declared.run.End.{End as Told}
use Rattle.flat_machine.specs.declared.turn.After.{After}
use Rattle.flat_machine.specs.declared.turn.After.TheVariants as after
use Rattle.flat_machine.specs.Runs.{Ends, StandsStill, Stops}

-- by what comes of the event in the world that the old parts stand for: a stray access, a full log and want of memory change nothing
abbrev pub Carried : About → Outcome → Kept → Kept → ℕ → Result After AllocError → Type 0
Carried a outcome old new pid (Err error) = new ≡ old
Carried a (went now t) old new pid (Ok after.GoesOn) = (now ≡ world_of (later 1 a) new) × (t.over ≡ false) × CanRun new.procs pid
Carried a (went now t) old new pid (Ok after.TurnEnds) = (now ≡ world_of (later 1 a) new) × (t.over ≡ true)
Carried a (strays access) old new pid (Ok (after.Strays seen)) = (seen ≡ access) × (new ≡ old)
Carried a full old new pid (Ok after.LogFull) = new ≡ old
Carried a outcome old new pid (Ok other) = ⊥

-- where a run ends at its first stray access, that is noted
abbrev pub CarriedOrEnds : About → Outcome → Kept → Kept → ℕ → Result After AllocError → Type 0
CarriedOrEnds a (strays access) old new pid (Ok (after.Strays seen)) = (seen ≡ access) × (world_of a new ≡ noted (stray_note pid access) (world_of a old))
CarriedOrEnds a outcome old new pid result = Carried a outcome old new pid result

-- where it goes on, its event comes behind that note, and only adds; or nothing is done yet
abbrev pub CarriedOrPast : About → Outcome → Kept → Kept → ℕ → Result After AllocError → Type 0
CarriedOrPast a (strays access) old new pid (Ok (after.Strays seen)) = (seen ≡ access) × (new ≡ old)
CarriedOrPast a (strays access) old new pid (Ok behind) = Adds (noted (stray_note pid access) (world_of a old)) (world_of a new)
CarriedOrPast a outcome old new pid result = Carried a outcome old new pid result

-- a turn out of memory: behind some events the process stands at one that isn't an instruction that is carried out
pub record TurnStops (pid count : ℕ) (old : World) (done : ℕ) (new : World) : Type 0 where
  pub less : done < count
  pub walked : (turn done pid old).world ≡ new
  pub goes_on : (turn done pid old).end ≡ None
  pub still : StandsStill new pid

-- the end of the run, if the turn stops it
abbrev pub TurnLeaves : ℕ → ℕ → World → ℕ → World → Result (Option Told) AllocError → Type 0
TurnLeaves pid count old done new (Ok None) = ((turn count pid old).world ≡ new) × ((turn count pid old).end ≡ None)
TurnLeaves pid count old done new (Ok (Some end)) = ((turn count pid old).world ≡ new) × Ends (turn count pid old).end end
TurnLeaves pid count old done new (Err error) = TurnStops pid count old done new

-- the run goes on with any quanta, or has ended, whatever quanta are left
abbrev pub Leaves : List Quantum → World → World → Result (Option Told) AllocError → Type 0
Leaves quanta old new (Ok None) = Comes quanta old new
Leaves quanta old new (Ok (Some end)) = (back : List Quantum) → ((turns (quanta ++ back) old).world ≡ new) × Ends (turns (quanta ++ back) old).end end
Leaves quanta old new (Err error) = Stops quanta old new
