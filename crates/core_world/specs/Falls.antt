-- Which processes of a run end by a signal of an instruction, in the order of its events, and of which one a core is (signal(7); an
-- access outside the own bytes is what stops a run).
use Rattle.std.specs.Prelude.{ℕ, zero, suc, if◌then◌else◌, List, [], ◌∷◌, ◌++◌, Option, Some, None}
use Rattle.rv32im_step.specs.Meaning.{Meaning, next, call, trap, refused, meaning}
use Rattle.mmap_rules.specs.Space.{writable_in}
use Rattle.call_log.specs.Notes.{stray_note}
use Rattle.quantum_sched.specs.declared.Quantum.{Quantum}
use Rattle.quantum_sched.specs.Picked.{picked}
use Rattle.vfork_exec.specs.Keyed.{find}
use Rattle.machine_world.specs.World.{World, Process, LiveSpace, pid_of, id_of}
use Rattle.machine_world.specs.Families.{ready_pids}
use Rattle.machine_world.specs.Event.{Outcome, went, strays, full, idle, noted, event}
use Rattle.machine_world.specs.Turns.{End, turn, turns}

-- a process, the signal by which it falls, and the world before that
pub record Fall : Type 0 where
  pub pid : ℕ
  pub signal : ℕ
  pub world : World

abbrev pub fall_pid : Fall → ℕ
fall_pid f = f.pid

-- Linux's SIGSEGV
abbrev pub segv : ℕ
segv = 11

-- ---- by one event

-- the signal of an instruction that is a trap
abbrev pub signal_of : Meaning → Option ℕ
signal_of (next regs bytes) = None
signal_of call = None
signal_of (trap signal) = Some signal
signal_of (refused access) = None

abbrev pub trap_in : Process → Option LiveSpace → Option ℕ
trap_in p None = None
trap_in p (Some s) = signal_of (meaning p.regs s.space.bytes (writable_in s.space.maps))

abbrev pub trap_of : World → Option Process → Option ℕ
trap_of w None = None
trap_of w (Some p) = trap_in p (find id_of p.space w.spaces)

-- the signal by which a process's next event ends it, if that is a trap
unfoldable pub trap_at : World → (pid : ℕ) → Option ℕ
trap_at w pid = trap_of w (find pid_of pid w.procs)

abbrev pub by_trap : World → (pid : ℕ) → Option ℕ → List Fall
by_trap w pid None = []
by_trap w pid (Some signal) = record { pid = pid; signal = signal; world = w } ∷ []

-- ---- along the walk

-- by an event, and by what comes behind it, unless the turn is over; a stray access is noted in the world where it is
abbrev pub by_event : (World → List Fall) → World → (pid : ℕ) → Outcome → List Fall
by_event more w pid (went now t) = by_trap w pid (trap_at w pid) ++ (if t.over then [] else more now)
by_event more w pid (strays a) = record { pid = pid; signal = segv; world = noted (stray_note pid a) w } ∷ []
by_event more w pid full = []
by_event more w pid idle = []

-- by up to n events of one process
unfoldable pub turn_falls : (n pid : ℕ) → World → List Fall
turn_falls zero pid w = []
turn_falls (suc n) pid w = by_event (turn_falls n pid) w pid (event w pid)

-- what comes behind a turn, where the run goes on
abbrev pub behind_turn : (World → List Fall) → World → Option End → List Fall
behind_turn more w (Some end) = []
behind_turn more w None = more w

abbrev pub quantum_falls : (World → List Fall) → World → (count : ℕ) → Option ℕ → List Fall
quantum_falls more w count None = []
quantum_falls more w count (Some pid) = turn_falls count pid w ++ behind_turn more (turn count pid w).world (turn count pid w).end

-- by the turns of some quanta
unfoldable pub falls : List Quantum → World → List Fall
falls [] w = []
falls (q ∷ qs) w = quantum_falls (falls qs) w q.count (picked q.pick (ready_pids w.procs))

-- ---- of which one a core is

abbrev pub first : List Fall → Option Fall
first [] = None
first (f ∷ fs) = Some f

-- a process that lives in a world and doesn't fall, with signal 0
abbrev pub standing : World → Option Process → Option Fall
standing w None = None
standing w (Some p) = Some (record { pid = p.pid; signal = 0; world = w })

abbrev pub or_standing : World → (pid : ℕ) → Option Fall → Option Fall
or_standing w pid (Some f) = Some f
or_standing w pid None = standing w (find pid_of pid w.procs)

-- the first that falls; or where a pid is wanted the first fall of that process, or else the process as it stands at the end, if it lives
unfoldable pub core_of : List Quantum → World → (wanted : Option ℕ) → Option Fall
core_of quanta w None = first (falls quanta w)
core_of quanta w (Some pid) = or_standing (turns quanta w).world pid (find fall_pid pid (falls quanta w))
