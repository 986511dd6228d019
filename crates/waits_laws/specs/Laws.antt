-- Who waits would wait again, at boot and along every run.
use Rattle.std.specs.Prelude.{◌≡◌, ℕ, ◌≤◌, [], List, length, Some, Ok}
use Rattle.fd_tables.specs.Files.{nothing_open}
use Rattle.quantum_sched.specs.declared.Quantum.{Quantum}
use Rattle.vfork_exec.specs.declared.family.State.{State}
use Rattle.vfork_exec.specs.declared.family.State.TheVariants.{Ready, Waiting, OnPipe, Lent}
use Rattle.vfork_exec.specs.Keyed.{find}
use Rattle.vfork_exec.specs.Procs.{most_entries}
use Rattle.machine_world.specs.World.{Rest, Process, World, pid_of}
use Rattle.machine_world.specs.Families.{MayRun}
use Rattle.machine_world.specs.Event.{Trace, went, event}
use Rattle.machine_world.specs.Turns.{stuck, turn, turns}
use Rattle.machine_world.specs.Boot.{StartLine, boot}
use Rattle.machine_world.specs.Order.{IsCounted}
use Rattle.alone_laws.specs.Sound.{IsSound}
use Rattle.alone_laws.specs.Laws.{CanBoot}
use Rattle.waits_laws.specs.Waits.{WaitsAgain, HasVforkChild, WaitsWell}

-- a world that is sound, in which what is open is counted exactly and no pipe is marked, as every world of a run
pub record IsOrdered (w : World) : Type 0 where
  pub sound : IsSound w
  pub counted : IsCounted w
  pub unmarked : w.rest.files.changed ≡ []

abbrev pub EventsKeepWaits : Type 0
EventsKeepWaits = (w : World) (pid : ℕ) (now : World) (t : Trace) → IsOrdered w → WaitsWell w → MayRun w pid → event w pid ≡ went now t → WaitsWell now

abbrev pub TurnsKeepWaits : Type 0
TurnsKeepWaits = (count pid : ℕ) (w : World) → IsOrdered w → WaitsWell w → MayRun w pid → WaitsWell (turn count pid w).world

abbrev pub RunsKeepWaits : Type 0
RunsKeepWaits = (quanta : List Quantum) (w : World) → IsOrdered w → WaitsWell w → WaitsWell (turns quanta w).world

-- the opening world, before which nothing is open
abbrev pub BootsWaitWell : Type 0
BootsWaitWell =
    (rest : Rest) (starts : List StartLine) (w : World) → CanBoot rest → rest.files ≡ nothing_open rest.files.stdin → length starts ≤ most_entries →
    boot rest starts ≡ Ok w → IsOrdered w × WaitsWell w

-- it waits so, or stands still for its vfork child, which lives and runs in its space
abbrev pub WaitsOrLent : World → Process → State → Type 0
WaitsOrLent w p Ready = ⊥
WaitsOrLent w p (Waiting who) = WaitsAgain w p
WaitsOrLent w p (OnPipe pipe) = WaitsAgain w p
WaitsOrLent w p (Lent child) = HasVforkChild w p child

-- where a run is stuck, each process that lives
abbrev pub StuckRunsWait : Type 0
StuckRunsWait =
    (quanta : List Quantum) (w : World) → IsOrdered w → WaitsWell w → (turns quanta w).end ≡ Some stuck →
    (pid : ℕ) (p : Process) → find pid_of pid (turns quanta w).world.procs ≡ Some p → WaitsOrLent (turns quanta w).world p p.state
