-- What the next event, a turn and the turns of some quanta leave in the one memory.
use Rattle.std.specs.Prelude.{◌≡◌, ◌≢◌, ℕ, ◌<◌, if◌then◌else◌, Bool, true, false, List, ◌∷◌, ◌++◌, Option, Some, None, Result, Ok, Err}
use Rattle.std.specs.declared.alloc.AllocError.{AllocError}
use Rattle.byte_words.specs.ByteMap.{Bytes}
use Rattle.byte_words.specs.declared.access.Access.{Access}
use Rattle.rv32im_step.specs.declared.regs.Regs.{Regs}
use Rattle.rv32im_step.specs.declared.stop.Stop.{Stop}
use Rattle.rv32im_step.specs.declared.stop.Stop.TheVariants.{Next, Refused}
use Rattle.rv32im_step.specs.Meaning.{Meaning, next, meaning}
use Rattle.mmap_rules.specs.Space.{Space, writable_in}
use Rattle.quantum_sched.specs.declared.Quantum.{Quantum}
use Rattle.quantum_sched.specs.Picked.{picked}
use Rattle.vfork_exec.specs.Keyed.{find}
use Rattle.vfork_exec.specs.Procs.{CanRun}
use Rattle.machine_world.specs.Families.{ready_pids}
use Rattle.machine_world.specs.World.{World, Process, LiveSpace, pid_of, id_of}
use Rattle.machine_world.specs.Turns.{End, Walk, stray_at, log_full, turn, turns}
use Rattle.memory_world.specs.Physical.{Physical, After as Outcome, after as goes, no_room, has_stray, next_meaning, first_stray_in, event_in, turn_in, turns_in}
use Rattle.memory_world.specs.Courses.{LeadsIn, ComesIn, StandsIn}
use Rattle.memory_world.specs.Growth.{Adds}
use Rattle.region_watch.specs.declared.mode.Mode.{Mode}
use Rattle.region_watch.specs.declared.mode.Mode.TheVariants.{Halt}
use Rattle.kept_parts.specs.Kept.{Kept}
use Rattle.kept_parts.specs.Stands.{About, later}
use Rattle.kept_parts.specs.InMemory.{physical_of}
use Rattle.flat_machine.specs.declared.run.End.{End as Told}
use Rattle.flat_machine.specs.declared.run.End.TheVariants as told
use Rattle.flat_machine.specs.declared.turn.After.{After}
use Rattle.flat_machine.specs.declared.turn.After.TheVariants as after
use Rattle.flat_machine.specs.Runs.{Ends}
use Rattle.flat_machine.specs.Leaves.{TurnLeaves, Leaves}

-- ---- an event

-- by what comes of it in the one memory that the old parts stand for: out of memory nothing changed
abbrev pub CarriedIn : List (List ℕ) → About → Outcome → Kept → Kept → ℕ → Result After AllocError → Type 0
CarriedIn headers a outcome old new pid (Err error) = new ≡ old
CarriedIn headers a (goes now over) old new pid (Ok after.GoesOn) = (now ≡ physical_of headers (later 1 a) new) × (over ≡ false) × CanRun new.procs pid
CarriedIn headers a (goes now over) old new pid (Ok after.TurnEnds) = (now ≡ physical_of headers (later 1 a) new) × (over ≡ true)
CarriedIn headers a (no_room now) old new pid (Ok after.LogFull) = now ≡ physical_of headers a new
CarriedIn headers a outcome old new pid (Ok other) = ⊥

-- its event may be the run's first that strays, of which nothing is done yet
abbrev pub CarriedWithin : List (List ℕ) → About → Kept → Kept → ℕ → Result After AllocError → Type 0
CarriedWithin headers a old new pid (Ok (after.Strays access)) = (first_stray_in (physical_of headers a old) pid ≡ Some access) × (new ≡ old)
CarriedWithin headers a old new pid result = CarriedIn headers a (event_in (physical_of headers a old) pid) old new pid result

-- an event of a run that goes on, behind the note of its stray access where that is the first: the turn goes on, or is over, or the log
-- has no room; out of memory nothing changed
abbrev pub EventIn : List (List ℕ) → About → Kept → Kept → ℕ → Result After AllocError → Type 0
EventIn headers a old new pid (Ok after.GoesOn) = LeadsIn pid (physical_of headers a old) 1 (physical_of headers (later 1 a) new) × CanRun new.procs pid
EventIn headers a old new pid (Ok after.TurnEnds) = event_in (physical_of headers a old) pid ≡ goes (physical_of headers (later 1 a) new) true
EventIn headers a old new pid (Ok (after.Strays access)) = ⊥
EventIn headers a old new pid (Ok after.LogFull) = event_in (physical_of headers a old) pid ≡ no_room (physical_of headers a new)
EventIn headers a old new pid (Err error) = new ≡ old

-- where a process stands: within its own bytes an access that is refused says nothing of all of memory
abbrev pub StandsWithin : Mode → Physical → ℕ → Stop → Type 0
StandsWithin Halt p pid (Refused access) = Unit {0}
StandsWithin reach p pid stop = StandsIn p pid stop

-- of at most so many instructions all were carried out, or the process stands at one that isn't
abbrev pub HaltsWithin : Mode → Physical → (pid most done : ℕ) → Stop → Type 0
HaltsWithin reach p pid most done Next = done ≡ most
HaltsWithin reach p pid most done stop = (done < most) × StandsWithin reach p pid stop

-- ---- a turn

-- it comes to its end, or to that of the run
abbrev pub TurnEndsIn : ℕ → ℕ → Physical → Physical → Option End → Type 0
TurnEndsIn pid count old new end = turn_in count pid old ≡ record { now = new; end = end }

-- a process's next step: within its own bytes up to the run's first stray access, and behind it over all of memory
abbrev pub step_within : Physical → Process → Space → Meaning
step_within p q s = if has_stray p.world.notes then next_meaning p q else meaning q.regs s.bytes (writable_in s.maps)

-- the next instruction of a process isn't carried out: it makes a call, traps, or strays
pub record StandsStillIn (p : Physical) (pid : ℕ) : Type 0 where
  pub process : Process
  pub space : LiveSpace
  pub lives : find pid_of pid p.world.procs ≡ Some process
  pub has : find id_of process.space p.world.spaces ≡ Some space
  pub still : (regs : Regs) (bytes : Bytes) → step_within p process space.space ≢ next regs bytes

-- out of memory it stands behind some of its events; there the next instruction makes a call, traps, or strays
pub record TurnStopsIn (pid count : ℕ) (old : Physical) (done : ℕ) (new : Physical) : Type 0 where
  pub less : done < count
  pub walked : turn_in done pid old ≡ record { now = new; end = None }
  pub still : StandsStillIn new pid

abbrev pub TurnLeavesIn : ℕ → ℕ → Physical → ℕ → Physical → Result (Option Told) AllocError → Type 0
TurnLeavesIn pid count old done new (Ok None) = TurnEndsIn pid count old new None
TurnLeavesIn pid count old done new (Ok (Some told.LogFull)) = TurnEndsIn pid count old new (Some log_full)
TurnLeavesIn pid count old done new (Ok (Some other)) = ⊥
TurnLeavesIn pid count old done new (Err error) = TurnStopsIn pid count old done new

-- it came to a stray access that isn't carried out
abbrev pub is_stray : Result (Option Told) AllocError → Bool
is_stray (Ok (Some (told.Stray access))) = true
is_stray other = false

-- ---- a run

-- out of memory it stands within the turn of a quantum
pub record StopsIn (quanta : List Quantum) (old new : Physical) : Type 0 where
  pub front : List Quantum
  pub quantum : Quantum
  pub back : List Quantum
  pub are : quanta ≡ front ++ quantum ∷ back
  -- where that turn begins
  pub before : Physical
  pub reached : ComesIn front old before
  pub pid : ℕ
  pub chosen : picked quantum.pick (ready_pids before.world.procs) ≡ Some pid
  pub done : ℕ
  pub stops : TurnStopsIn pid quantum.count before done new

-- it goes on with any quanta, or has ended, whatever quanta are left
abbrev pub LeavesIn : List Quantum → Physical → Physical → Result (Option Told) AllocError → Type 0
LeavesIn quanta old new (Ok None) = ComesIn quanta old new
LeavesIn quanta old new (Ok (Some end)) =
    (back : List Quantum) → ((turns_in (quanta ++ back) old).now ≡ new) × Ends (turns_in (quanta ++ back) old).end end
LeavesIn quanta old new (Err error) = StopsIn quanta old new

-- the world of private spaces ends there with a stray access, and all that it noted and wrote stands before what came later
pub record GoesPast (walk : Walk) (now : World) : Type 0 where
  pub pid : ℕ
  pub access : Access
  pub ends : walk.end ≡ Some (stray_at pid access)
  pub adds : Adds walk.world now

-- a turn of a run that goes on and met no stray access yet: still none, and it is that of the private spaces; or one, and that ends there
abbrev pub TurnFirst : ℕ → ℕ → World → ℕ → World → Result (Option Told) AllocError → Type 0
TurnFirst pid count old done new result =
    (has_stray new.notes ≡ false → TurnLeaves pid count old done new result) × (has_stray new.notes ≡ true → GoesPast (turn count pid old) new)

-- so the turns of some quanta, whatever quanta are left
abbrev pub LeavesFirst : List Quantum → World → World → Result (Option Told) AllocError → Type 0
LeavesFirst quanta old new (Err error) = Unit {0}
LeavesFirst quanta old new (Ok end) =
    (has_stray new.notes ≡ false → Leaves quanta old new (Ok end)) × (has_stray new.notes ≡ true → (back : List Quantum) → GoesPast (turns (quanta ++ back) old) new)
