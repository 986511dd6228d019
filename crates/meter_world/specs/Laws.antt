-- Laws of the steps and of the requests.
use Rattle.std.specs.Prelude.{◌≡◌, ◌≢◌, ℕ, false, List, map, Option, Some, None}
use Rattle.call_log.specs.Notes.{stray_note}
use Rattle.quantum_sched.specs.declared.Quantum.{Quantum}
use Rattle.mmap_rules.specs.Space.{Space}
use Rattle.machine_world.specs.World.{Process, World}
use Rattle.machine_world.specs.Event.{ask_of, noted}
use Rattle.machine_world.specs.Turns.{End, all_ended, stuck, out_of_quanta, stray_at, log_full, turns}
use Rattle.memory_world.specs.Physical.{Physical, turns_in}
use Rattle.refusal_laws.specs.NoRun.{LacksRun}
use Rattle.meter_world.specs.Requests.{need_of, is_granted}
use Rattle.meter_world.specs.Steps.{steps, steps_in, world_behind}
use Rattle.meter_world.specs.Meter.{last_of}

-- a stray access is noted behind the last step
abbrev pub noted_end : World → Option End → World
noted_end w None = w
noted_end w (Some all_ended) = w
noted_end w (Some stuck) = w
noted_end w (Some out_of_quanta) = w
noted_end w (Some (stray_at pid access)) = noted (stray_note pid access) w
noted_end w (Some log_full) = w

-- the steps lead where the turns lead
abbrev pub StepsLead : Type 0
StepsLead = (quanta : List Quantum) (w : World) → (turns quanta w).world ≡ noted_end (last_of w (map world_behind (steps quanta w))) (turns quanta w).end

-- over one memory the first stray access is noted before its event; where that then finds no room in the log, the note stands behind the
-- last step
abbrev pub StepsLeadIn : Type 0
StepsLeadIn = (quanta : List Quantum) (p : Physical) → (turns_in quanta p).end ≢ Some log_full → (turns_in quanta p).now.world ≡ last_of p.world (map world_behind (steps_in quanta p))

-- a call asks for pages that aren't granted
pub record AsksInVain (w : World) (p : Process) (s : Space) (bytes : List ℕ) : Type 0 where
  pub need : ℕ
  pub asks : need_of w (ask_of w p s bytes) ≡ Some need
  pub refused : is_granted (record { need = need; world = w }) ≡ false

-- that is a call which lacks a run, and no other
pub record VainIsLacking (w : World) (p : Process) (s : Space) (bytes : List ℕ) : Type 0 where
  pub lacks : AsksInVain w p s bytes → LacksRun w (ask_of w p s bytes)
  pub asks : LacksRun w (ask_of w p s bytes) → AsksInVain w p s bytes

abbrev pub RequestsAreExact : Type 0
RequestsAreExact = (w : World) (p : Process) (s : Space) (bytes : List ℕ) → VainIsLacking w p s bytes
