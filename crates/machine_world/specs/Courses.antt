-- How far a turn or a run came: what it leaves to do gives, behind some traces, what the whole gives.
use Rattle.std.specs.Prelude.{◌≡◌, ℕ, ◌+◌, ◌<◌, List, ◌++◌, Some}
use Rattle.rv32im_step.specs.declared.regs.Regs.{Regs}
use Rattle.rv32im_step.specs.declared.stop.Stop.{Stop}
use Rattle.rv32im_step.specs.declared.stop.Stop.TheVariants.{Next, Call, Trap, Refused}
use Rattle.rv32im_step.specs.Meaning.{Meaning, call, trap, refused, meaning}
use Rattle.mmap_rules.specs.Space.{Space, writable_in}
use Rattle.quantum_sched.specs.declared.Quantum.{Quantum}
use Rattle.vfork_exec.specs.Keyed.{find}
use Rattle.machine_world.specs.World.{World, Process, LiveSpace, pid_of, id_of}
use Rattle.machine_world.specs.Event.{Trace, with_space}
use Rattle.machine_world.specs.Turns.{turn, turns, walked}
use Rattle.machine_world.specs.Recordings.{passed}

-- behind so many events of a process a turn of it goes on in the new world
pub record Leads (pid : ℕ) (old : World) (done : ℕ) (new : World) : Type 0 where
  pub traces : List Trace
  pub on : (left : ℕ) → turn (done + left) pid old ≡ walked traces (turn left pid new)

-- behind the turns of some quanta a run goes on in the new world
pub record Comes (front : List Quantum) (old new : World) : Type 0 where
  pub traces : List Trace
  pub on : (back : List Quantum) → turns (front ++ back) old ≡ walked traces (turns back new)

-- one process in its space, so many events later
abbrev pub moved : World → Process → Regs → Space → ℕ → World
moved w p regs space done = passed p.space done (record (with_space w p regs space) { events = w.events + done })

-- an instruction that isn't carried out, and how a step ends at it
abbrev pub EndsAs : Meaning → Stop → Type 0
EndsAs means Call = means ≡ call
EndsAs means (Trap signal) = means ≡ trap signal
EndsAs means (Refused access) = means ≡ refused access
EndsAs means Next = ⊥

-- the next step of a process that lives ends so
pub record StandsAt (w : World) (pid : ℕ) (stop : Stop) : Type 0 where
  pub process : Process
  pub space : LiveSpace
  pub lives : find pid_of pid w.procs ≡ Some process
  pub has : find id_of process.space w.spaces ≡ Some space
  pub means : EndsAs (meaning process.regs space.space.bytes (writable_in space.space.maps)) stop

-- of at most so many instructions all were carried out, or the process stands at one that isn't
abbrev pub Halts : World → ℕ → ℕ → ℕ → Stop → Type 0
Halts w pid most done Next = done ≡ most
Halts w pid most done stop = (done < most) × StandsAt w pid stop
