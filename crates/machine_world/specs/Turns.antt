-- A run: turns by a list of quanta.
use Rattle.std.specs.Prelude.{ℕ, zero, suc, ◌==◌, if◌then◌else◌, List, [], ◌∷◌, ◌++◌, length, Option, Some, None}
use Rattle.byte_words.specs.declared.access.Access.{Access}
use Rattle.call_log.specs.Notes.{stray_note}
use Rattle.quantum_sched.specs.declared.Quantum.{Quantum}
use Rattle.quantum_sched.specs.Picked.{picked}
use Rattle.machine_world.specs.World.{World}
use Rattle.machine_world.specs.Families.{ready_pids}
use Rattle.machine_world.specs.Event.{Trace, Outcome, went, strays, full, idle, noted, event}

-- why a run stops: no process lives, processes live and none may run, the quanta are used up and one may run, the next access strays,
-- the next call finds no room in the log
pub data End : Type 0 where
  all_ended : End
  stuck : End
  out_of_quanta : End
  stray_at : ℕ → Access → End
  log_full : End

-- the world behind some events, their traces, and why the run stops there, if it does
pub record Walk : Type 0 where
  pub world : World
  pub traces : List Trace
  pub end : Option End

abbrev pub remains_at : World → Option End → Walk
remains_at w end = record { world = w; traces = []; end = end }

abbrev pub traced : Trace → Walk → Walk
traced t walk = record walk { traces = t ∷ walk.traces }

-- after one event, unless the turn is over, those that are left
abbrev pub turned : (World → Walk) → World → ℕ → Outcome → Walk
turned more w pid (went now t) = traced t (if t.over then remains_at now None else more now)
turned more w pid (strays a) = remains_at (noted (stray_note pid a) w) (Some (stray_at pid a))
turned more w pid full = remains_at w (Some log_full)
turned more w pid idle = remains_at w None

-- up to n events of one process
unfoldable pub turn : ℕ → ℕ → World → Walk
turn zero pid w = remains_at w None
turn (suc n) pid w = turned (turn n pid) w pid (event w pid)

-- what has been walked, and what comes behind it where the run goes on
abbrev pub walked : List Trace → Walk → Walk
walked traces walk = record walk { traces = traces ++ walk.traces }

abbrev pub going_on : (World → Walk) → Walk → Walk
going_on more walk = gone (walk.end)
  where
    gone : Option End → Walk
    gone (Some end) = walk
    gone None = walked walk.traces (more walk.world)

-- where none may run
abbrev pub none_runs : World → End
none_runs w = if length w.procs == 0 then all_ended else stuck

abbrev pub quantum_turn : (World → Walk) → World → ℕ → Option ℕ → Walk
quantum_turn more w count None = remains_at w (Some (none_runs w))
quantum_turn more w count (Some pid) = going_on more (turn count pid w)

abbrev pub last_end : World → List ℕ → End
last_end w [] = none_runs w
last_end w (pid ∷ pids) = out_of_quanta

-- before each quantum and behind the last one the run stops where no process may run
unfoldable pub turns : List Quantum → World → Walk
turns [] w = remains_at w (Some (last_end w (ready_pids w.procs)))
turns (q ∷ qs) w = quantum_turn (turns qs) w q.count (picked q.pick (ready_pids w.procs))
