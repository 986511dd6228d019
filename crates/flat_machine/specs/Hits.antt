-- Which accesses of a run hit what is watched, in the order of its events. Only loads and stores access data (RISC-V unprivileged ISA,
-- RV32I, "Load and Store Instructions"): what a system call reads and writes is no access of an instruction, and never hits. A process
-- that isn't there, and one whose event isn't carried out, makes none.
use Rattle.std.specs.Prelude.{ℕ, zero, suc, if◌then◌else◌, List, [], ◌∷◌, ◌++◌, Option, Some, None}
use Rattle.rv32im_step.specs.Asked.{Asked, asked}
use Rattle.mmap_rules.specs.Space.{writable_in}
use Rattle.quantum_sched.specs.declared.Quantum.{Quantum}
use Rattle.quantum_sched.specs.Picked.{picked}
use Rattle.vfork_exec.specs.Keyed.{find}
use Rattle.machine_world.specs.World.{World, Process, LiveSpace, pid_of, id_of}
use Rattle.machine_world.specs.Families.{ready_pids}
use Rattle.machine_world.specs.Event.{Outcome, went, strays, full, idle, event}
use Rattle.machine_world.specs.Turns.{End, turn}
use Rattle.memory_world.specs.Physical.{Physical, After, after, no_room, nobody, in_memory, event_in, turn_in}
use Rattle.watch_points.specs.declared.hits.Hit.{Hit}
use Rattle.watch_points.specs.declared.point.PointKind.{PointKind}
use Rattle.watch_points.specs.declared.span.Span.{Span}
use Rattle.watch_points.specs.Points.{hits_in}

-- ---- in the world of private spaces

-- the accesses of a process's next instruction, over its own bytes
abbrev pub asked_in_space : Process → Option LiveSpace → List Asked
asked_in_space p None = []
asked_in_space p (Some s) = asked p.regs s.space.bytes (writable_in s.space.maps)

abbrev pub asked_of : World → Option Process → List Asked
asked_of w None = []
asked_of w (Some p) = asked_in_space p (find id_of p.space w.spaces)

unfoldable pub event_asked : World → ℕ → List Asked
event_asked w pid = asked_of w (find pid_of pid w.procs)

-- what comes behind an event, unless the turn is over
abbrev pub behind : (World → List Hit) → Outcome → List Hit
behind more (went now t) = if t.over then [] else more now
behind more (strays access) = []
behind more full = []
behind more idle = []

-- those of up to n events of one process
unfoldable pub turn_hits : PointKind → List Span → (pid n : ℕ) → World → List Hit
turn_hits kind spans pid zero w = []
turn_hits kind spans pid (suc n) w = hits_in kind spans pid (event_asked w pid) ++ behind (turn_hits kind spans pid n) (event w pid)

-- what comes behind a turn, where the run goes on
abbrev pub behind_turn : (World → List Hit) → World → Option End → List Hit
behind_turn more w (Some end) = []
behind_turn more w None = more w

abbrev pub quantum_hits : PointKind → List Span → (World → List Hit) → World → ℕ → Option ℕ → List Hit
quantum_hits kind spans more w count None = []
quantum_hits kind spans more w count (Some pid) = turn_hits kind spans pid count w ++ behind_turn more (turn count pid w).world (turn count pid w).end

-- those of the turns of some quanta
unfoldable pub hits : PointKind → List Span → List Quantum → World → List Hit
hits kind spans [] w = []
hits kind spans (q ∷ qs) w = quantum_hits kind spans (hits kind spans qs) w q.count (picked q.pick (ready_pids w.procs))

-- ---- in the one memory: its events are carried out over all of it, so the first stray access hits when that is done, and only once

abbrev pub asked_in_memory : Physical → Process → Option LiveSpace → List Asked
asked_in_memory p q None = []
asked_in_memory p q (Some s) = asked q.regs p.memory (in_memory p.world)

abbrev pub asked_of_in : Physical → Option Process → List Asked
asked_of_in p None = []
asked_of_in p (Some q) = asked_in_memory p q (find id_of q.space p.world.spaces)

unfoldable pub event_asked_in : Physical → ℕ → List Asked
event_asked_in p pid = asked_of_in p (find pid_of pid p.world.procs)

abbrev pub behind_in : (Physical → List Hit) → After → List Hit
behind_in more (after now over) = if over then [] else more now
behind_in more (no_room now) = []
behind_in more nobody = []

unfoldable pub turn_hits_in : PointKind → List Span → (pid n : ℕ) → Physical → List Hit
turn_hits_in kind spans pid zero p = []
turn_hits_in kind spans pid (suc n) p = hits_in kind spans pid (event_asked_in p pid) ++ behind_in (turn_hits_in kind spans pid n) (event_in p pid)

abbrev pub behind_turn_in : (Physical → List Hit) → Physical → Option End → List Hit
behind_turn_in more p (Some end) = []
behind_turn_in more p None = more p

abbrev pub quantum_hits_in : PointKind → List Span → (Physical → List Hit) → Physical → ℕ → Option ℕ → List Hit
quantum_hits_in kind spans more p count None = []
quantum_hits_in kind spans more p count (Some pid) =
    turn_hits_in kind spans pid count p ++ behind_turn_in more (turn_in count pid p).now (turn_in count pid p).end

unfoldable pub hits_in_memory : PointKind → List Span → List Quantum → Physical → List Hit
hits_in_memory kind spans [] p = []
hits_in_memory kind spans (q ∷ qs) p = quantum_hits_in kind spans (hits_in_memory kind spans qs) p q.count (picked q.pick (ready_pids p.world.procs))
