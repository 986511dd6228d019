-- The same over the one memory of a run that goes on, behind its first stray access too.
use Rattle.std.specs.Prelude.{◌≡◌, ℕ, zero, suc, Bool, if◌then◌else◌, List, [], ◌∷◌, ◌++◌, length, drop, Option, Some, None}
use Rattle.call_log.specs.Notes.{CallEntry}
use Rattle.quantum_sched.specs.declared.Quantum.{Quantum}
use Rattle.quantum_sched.specs.Picked.{picked}
use Rattle.machine_world.specs.World.{World}
use Rattle.machine_world.specs.Families.{ready_pids}
use Rattle.machine_world.specs.Turns.{End}
use Rattle.memory_world.specs.Physical.{Physical, After, after, no_room, nobody, event_in, turn_in, turns_in}
use Rattle.alone_laws.specs.Stays.{kept_calls_of}
use Rattle.end_laws.specs.Console.{printed, AreWhole}

-- ---- an event

-- the calls that were noted since a world
abbrev pub calls_since : World → World → List CallEntry
calls_since old now = drop (length (kept_calls_of old.notes)) (kept_calls_of now.notes)

-- these are behind those that were noted before, and the console has what they write to it, and nothing else
pub record PrintsIn (w now : World) : Type 0 where
  pub notes : kept_calls_of now.notes ≡ kept_calls_of w.notes ++ calls_since w now
  pub console : now.rest.console ≡ w.rest.console ++ printed w (calls_since w now)
  pub whole : AreWhole w (calls_since w now)

abbrev pub EventsPrintIn : Type 0
EventsPrintIn = (p : Physical) (pid : ℕ) (now : Physical) (over : Bool) → event_in p pid ≡ after now over → PrintsIn p.world now.world

-- ---- a run, event by event

-- the world before an event, and the calls that it made
pub record MomentIn : Type 0 where
  pub world : World
  pub calls : List CallEntry

abbrev pub moments_behind_in : (Physical → List MomentIn) → Physical → After → List MomentIn
moments_behind_in more p (after now over) = record { world = p.world; calls = calls_since p.world now.world } ∷ (if over then [] else more now)
moments_behind_in more p (no_room now) = []
moments_behind_in more p nobody = []

unfoldable pub turn_moments_in : ℕ → ℕ → Physical → List MomentIn
turn_moments_in zero pid p = []
turn_moments_in (suc n) pid p = moments_behind_in (turn_moments_in n pid) p (event_in p pid)

abbrev pub moments_on_in : (Physical → List MomentIn) → Physical → Option End → List MomentIn
moments_on_in more p (Some end) = []
moments_on_in more p None = more p

abbrev pub quantum_moments_in : (Physical → List MomentIn) → Physical → ℕ → Option ℕ → List MomentIn
quantum_moments_in more p count None = []
quantum_moments_in more p count (Some pid) = turn_moments_in count pid p ++ moments_on_in more (turn_in count pid p).now (turn_in count pid p).end

-- the events of a run
unfoldable pub moments_in : List Quantum → Physical → List MomentIn
moments_in [] p = []
moments_in (q ∷ qs) p = quantum_moments_in (moments_in qs) p q.count (picked q.pick (ready_pids p.world.procs))

abbrev pub all_calls_in : List MomentIn → List CallEntry
all_calls_in [] = []
all_calls_in (m ∷ ms) = m.calls ++ all_calls_in ms

abbrev pub all_printed_in : List MomentIn → List ℕ
all_printed_in [] = []
all_printed_in (m ∷ ms) = printed m.world m.calls ++ all_printed_in ms

abbrev pub AllWholeIn : List MomentIn → Type 0
AllWholeIn [] = Unit {0}
AllWholeIn (m ∷ ms) = AreWhole m.world m.calls × AllWholeIn ms

-- the notes have the calls of these events, and the console has what they wrote to it, and nothing else
pub record PrintsAlongIn (p : Physical) (ms : List MomentIn) (now : Physical) : Type 0 where
  pub notes : kept_calls_of now.world.notes ≡ kept_calls_of p.world.notes ++ all_calls_in ms
  pub console : now.world.rest.console ≡ p.world.rest.console ++ all_printed_in ms
  pub whole : AllWholeIn ms

abbrev pub TurnsPrintIn : Type 0
TurnsPrintIn = (count pid : ℕ) (p : Physical) → PrintsAlongIn p (turn_moments_in count pid p) (turn_in count pid p).now

abbrev pub RunsPrintIn : Type 0
RunsPrintIn = (quanta : List Quantum) (p : Physical) → PrintsAlongIn p (moments_in quanta p) (turns_in quanta p).now
