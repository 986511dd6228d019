-- How a process ends: by its own exit or trap, which is that of its program alone.
use Rattle.std.specs.Prelude.{◌≡◌, ℕ, ◌%◌, ◌<◌, ◌≢◌, true, List, ◌∷◌, ◌++◌, Some, Ok, slice_get}
use Rattle.rv32im_step.specs.Registers.{register}
use Rattle.rv32im_step.specs.Meaning.{call, trap, meaning}
use Rattle.call_log.specs.declared.how.How.{How}
use Rattle.call_log.specs.declared.how.How.TheVariants.{Exit, Signal}
use Rattle.call_log.specs.Notes.{Note, end_note}
use Rattle.flat_loader.specs.Alone.{Runner, OwnMemory, Item, writable_of, number_of}
use Rattle.quantum_sched.specs.declared.Quantum.{Quantum}
use Rattle.machine_world.specs.World.{Rest, World}
use Rattle.machine_world.specs.Families.{MayRun}
use Rattle.machine_world.specs.Event.{Trace, went, is_exit, event}
use Rattle.machine_world.specs.Turns.{turn, turns}
use Rattle.machine_world.specs.Boot.{StartLine, boot}
use Rattle.alone_laws.specs.Stays.{Stay, AreRight, alone_end, collect_all, stays_along}
use Rattle.alone_laws.specs.Sound.{IsSound}

-- ---- one event

-- it stands at an exit, whose code's lowest eight bits these are; or its next step traps with this signal
abbrev pub EndsSo : Runner → OwnMemory → How → Type 0
EndsSo top m (Exit code) =
    (meaning top.regs m.bytes (writable_of m.ranges) ≡ call) × (is_exit (number_of top.regs) ≡ true) × (code ≡ register top.regs.x 10 % 256)
EndsSo top m (Signal signal) = meaning top.regs m.bytes (writable_of m.ranges) ≡ trap signal

-- the run of a stay alone comes to a process with this pid, which ends so over its own bytes
pub record EndsAlone (y : Stay) (pid : ℕ) (how : How) : Type 0 where
  pub top : Runner
  pub below : List Runner
  pub memory : OwnMemory
  pub comes : alone_end y ≡ Some (record { stack = top ∷ below; memory = memory })
  pub is : top.pid ≡ pid
  pub ends : EndsSo top memory how

-- the stay of the space in which an event was made
pub record EndsItsStay (ys : List Stay) (t : Trace) (pid : ℕ) (how : How) : Type 0 where
  pub stay : Stay
  pub at : slice_get ys t.space ≡ Some stay
  pub alone : EndsAlone stay pid how

-- a process that ends in an event is the one that made it, and ends as its program does there alone
abbrev pub EventsEndAsAlone : Type 0
EventsEndAsAlone =
    (ys : List Stay) (w : World) (pid : ℕ) (now : World) (t : Trace) → IsSound w → MayRun w pid → AreRight ys w → event w pid ≡ went now t →
    (more : List Note) (i other : ℕ) (how : How) → now.notes ≡ more ++ w.notes → slice_get more i ≡ Some (end_note other how) →
    (other ≡ pid) × EndsItsStay ys t pid how

-- ---- whole runs

-- a stay as it was at some earlier moment of the life of this one
pub record IsBefore (early y : Stay) : Type 0 where
  pub loading : early.loading ≡ y.loading
  pub pid : early.pid ≡ y.pid
  pub more : List Item
  pub items : y.items ≡ early.items ++ more
  pub events : early.events < y.events

-- at some earlier moment of the life of one of the stays its run alone came to a process with this pid, which ended so
pub record EndsInAStay (ys : List Stay) (pid : ℕ) (how : How) : Type 0 where
  pub number : ℕ
  pub stay : Stay
  pub at : slice_get ys number ≡ Some stay
  pub early : Stay
  pub before : IsBefore early stay
  pub alone : EndsAlone early pid how

-- so does each end that is noted
abbrev pub EndsAreTold : List Stay → List Note → Type 0
EndsAreTold ys notes = (i pid : ℕ) (how : How) → slice_get notes i ≡ Some (end_note pid how) → EndsInAStay ys pid how

-- no end is noted at boot
abbrev pub BootsEndNone : Type 0
BootsEndNone = (rest : Rest) (starts : List StartLine) (w : World) → boot rest starts ≡ Ok w → (i pid : ℕ) (how : How) → slice_get w.notes i ≢ Some (end_note pid how)

abbrev pub TurnsEndAsAlone : Type 0
TurnsEndAsAlone =
    (ys : List Stay) (count pid : ℕ) (w : World) → IsSound w → MayRun w pid → AreRight ys w → EndsAreTold ys w.notes →
    EndsAreTold (collect_all ys (turn count pid w).traces) (turn count pid w).world.notes

abbrev pub RunsEndAsAlone : Type 0
RunsEndAsAlone =
    (ys : List Stay) (quanta : List Quantum) (w : World) → IsSound w → AreRight ys w → EndsAreTold ys w.notes → EndsAreTold (stays_along ys w quanta) (turns quanta w).world.notes
