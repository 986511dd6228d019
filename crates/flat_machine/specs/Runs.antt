-- What a run leaves, and why it stops.
use Rattle.std.specs.Prelude.{◌≡◌, ◌≢◌, ℕ, zero, suc, ◌<◌, List, [], ◌∷◌, ◌++◌, Option, Some, None, Result, Ok, Err}
use Rattle.std.specs.declared.alloc.AllocError.{AllocError}
use Rattle.byte_words.specs.ByteMap.{Bytes}
use Rattle.rv32im_step.specs.declared.regs.Regs.{Regs}
use Rattle.rv32im_step.specs.Meaning.{next, meaning}
use Rattle.mmap_rules.specs.Space.{writable_in}
use Rattle.quantum_sched.specs.declared.Quantum.{Quantum}
use Rattle.quantum_sched.specs.Picked.{picked}
use Rattle.vfork_exec.specs.Keyed.{find}
use Rattle.machine_world.specs.World.{World, Process, LiveSpace, pid_of, id_of}
use Rattle.machine_world.specs.Families.{ready_pids}
use Rattle.machine_world.specs.Courses.{Comes}
use Rattle.machine_world.specs.Turns.{End, all_ended, stuck, out_of_quanta, stray_at, log_full, turn, turns}
use Rattle.alone_laws.specs.Stays.{Stay, AreRight, stays_along}
use Rattle.waits_laws.specs.Waits.{WaitsWell}
use Rattle.waits_laws.specs.Laws.{WaitsOrLent}
use Rattle.flat_machine.specs.declared.run.End.{End as Told}
use Rattle.flat_machine.specs.declared.run.End.TheVariants as told
use Rattle.flat_machine.specs.State.{State, world}

-- the quanta so many times
abbrev pub repeated : ℕ → List Quantum → List Quantum
repeated zero quanta = []
repeated (suc n) quanta = quanta ++ repeated n quanta

abbrev pub Ends : Option End → Told → Type 0
Ends (Some all_ended) told.AllEnded = Unit {0}
Ends (Some stuck) told.Stuck = Unit {0}
Ends (Some (stray_at pid access)) (told.Stray seen) = seen ≡ access
Ends (Some out_of_quanta) told.OutOfQuanta = Unit {0}
Ends (Some log_full) told.LogFull = Unit {0}
Ends end other = ⊥

-- the next instruction of a process isn't carried out: it makes a call, traps, or strays
pub record StandsStill (w : World) (pid : ℕ) : Type 0 where
  pub process : Process
  pub space : LiveSpace
  pub lives : find pid_of pid w.procs ≡ Some process
  pub has : find id_of process.space w.spaces ≡ Some space
  pub still : (regs : Regs) (bytes : Bytes) → meaning process.regs space.space.bytes (writable_in space.space.maps) ≢ next regs bytes

-- a run out of memory: it stands within the turn of a quantum, behind a whole number of events, and the next event isn't
-- an instruction that is carried out
pub record Stops (quanta : List Quantum) (old new : World) : Type 0 where
  pub front : List Quantum
  pub quantum : Quantum
  pub back : List Quantum
  pub are : quanta ≡ front ++ quantum ∷ back
  -- where that turn begins
  pub before : World
  pub reached : Comes front old before
  pub pid : ℕ
  pub chosen : picked quantum.pick (ready_pids before.procs) ≡ Some pid
  pub done : ℕ
  pub less : done < quantum.count
  pub walked : (turn done pid before).world ≡ new
  pub goes_on : (turn done pid before).end ≡ None
  pub still : StandsStill new pid

-- the machine stands for the world that the turns lead to, and tells their end
abbrev pub Runs : List Quantum → State → State → Result Told AllocError → Type 0
Runs quanta old new (Ok end) = (world new ≡ (turns quanta (world old)).world) × Ends (turns quanta (world old)).end end
Runs quanta old new (Err error) = Stops quanta (world old) (world new)

-- where what is told of each space's stay was right, it is right as it goes on along the turns of these quanta: each process does what
-- its program does alone under the same replies
abbrev pub KeepsStaysAlong : List Quantum → World → World → Type 0
KeepsStaysAlong quanta old new = (told : List Stay) → AreRight told old → AreRight (stays_along told old quanta) new

-- what a run that is out of memory went through: the quanta in front, and so many events of the next one
abbrev pub gone_through : {quanta : List Quantum} {old new : World} → Stops quanta old new → List Quantum
gone_through stops = stops.front ++ record stops.quantum { count = stops.done } ∷ []

-- along all of them, and out of memory along what was gone through
abbrev pub KeepsStays : List Quantum → State → State → Result Told AllocError → Type 0
KeepsStays quanta old new (Ok end) = KeepsStaysAlong quanta (world old) (world new)
KeepsStays quanta old new (Err error) = (stops : Stops quanta (world old) (world new)) → KeepsStaysAlong (gone_through stops) (world old) (world new)

-- where those that waited waited well, so they do behind the run, also out of memory
abbrev pub KeepsWaits : State → State → Type 0
KeepsWaits old new = WaitsWell (world old) → WaitsWell (world new)

-- and where the run is stuck, each process that lives waits in a call that would wait again, or stands still for its vfork child
abbrev pub WaitsWhereStuck : State → State → Result Told AllocError → Type 0
WaitsWhereStuck old new (Ok told.Stuck) =
    WaitsWell (world old) → (pid : ℕ) (p : Process) → find pid_of pid (world new).procs ≡ Some p → WaitsOrLent (world new) p p.state
WaitsWhereStuck old new (Ok other) = Unit {0}
WaitsWhereStuck old new (Err error) = Unit {0}
