-- The events of a run that are carried out, one by one: along the turns of the world of private spaces, or, for a run that goes on behind
-- its first stray access, over one memory.
use Rattle.std.specs.Prelude.{ℕ, zero, suc, if◌then◌else◌, List, [], ◌∷◌, ◌++◌, Option, Some, None}
use Rattle.rv32im_step.specs.Meaning.{meaning}
use Rattle.quantum_sched.specs.declared.Quantum.{Quantum}
use Rattle.quantum_sched.specs.Picked.{picked}
use Rattle.vfork_exec.specs.Keyed.{find}
use Rattle.call_log.specs.Sent.{sent}
use Rattle.mmap_rules.specs.Space.{Space, writable_in}
use Rattle.flat_loader.specs.Alone.{number_of, args_of}
use Rattle.machine_world.specs.World.{Process, LiveSpace, World, pid_of, id_of}
use Rattle.machine_world.specs.Families.{ready_pids}
use Rattle.machine_world.specs.Event.{Outcome, went, strays, full, idle, event}
use Rattle.machine_world.specs.Turns.{End, turn}
use Rattle.memory_world.specs.Physical.{Physical, After, after, no_room, nobody, next_meaning, event_in, turn_in}
use Rattle.meter_world.specs.Requests.{need_meant}

-- an event of a process, the worlds before and behind it, and the pages that it asked for
pub record Step : Type 0 where
  pub pid : ℕ
  pub before : World
  pub after : World
  pub need : Option ℕ

abbrev pub world_behind : Step → World
world_behind s = s.after

-- ---- of a process in its space, if it lives

abbrev pub in_space : (Process → Space → Option ℕ) → Process → Option LiveSpace → Option ℕ
in_space asks p None = None
in_space asks p (Some s) = asks p s.space

abbrev pub by_process : List LiveSpace → (Process → Space → Option ℕ) → Option Process → Option ℕ
by_process spaces asks None = None
by_process spaces asks (Some p) = in_space asks p (find id_of p.space spaces)

-- the pages that its next event asks for
unfoldable pub need_at : World → (pid : ℕ) → Option ℕ
need_at w pid =
    by_process w.spaces (λ p s. need_meant w p s (sent (number_of p.regs) (args_of p.regs) s.bytes) (meaning p.regs s.bytes (writable_in s.maps))) (find pid_of pid w.procs)

-- over one memory a call reads from all of it
unfoldable pub need_at_in : Physical → (pid : ℕ) → Option ℕ
need_at_in p pid =
    by_process p.world.spaces (λ q s. need_meant p.world q s (sent (number_of q.regs) (args_of q.regs) p.memory) (next_meaning p q)) (find pid_of pid p.world.procs)

-- ---- along the turns

abbrev pub by_event : (World → List Step) → World → (pid : ℕ) → Outcome → List Step
by_event more w pid (went now t) = record { pid = pid; before = w; after = now; need = need_at w pid } ∷ (if t.over then [] else more now)
by_event more w pid (strays a) = []
by_event more w pid full = []
by_event more w pid idle = []

-- up to n events of one process
unfoldable pub turn_steps : (n pid : ℕ) → World → List Step
turn_steps zero pid w = []
turn_steps (suc n) pid w = by_event (turn_steps n pid) w pid (event w pid)

-- what comes behind a turn, where the run goes on
abbrev pub behind_turn : {A : Type 0} → (A → List Step) → A → Option End → List Step
behind_turn more now (Some end) = []
behind_turn more now None = more now

abbrev pub quantum_steps : (World → List Step) → World → (count : ℕ) → Option ℕ → List Step
quantum_steps more w count None = []
quantum_steps more w count (Some pid) = turn_steps count pid w ++ behind_turn more (turn count pid w).world (turn count pid w).end

unfoldable pub steps : List Quantum → World → List Step
steps [] w = []
steps (q ∷ qs) w = quantum_steps (steps qs) w q.count (picked q.pick (ready_pids w.procs))

-- ---- over one memory

abbrev pub by_after : (Physical → List Step) → Physical → (pid : ℕ) → After → List Step
by_after more p pid (after now over) = record { pid = pid; before = p.world; after = now.world; need = need_at_in p pid } ∷ (if over then [] else more now)
by_after more p pid (no_room now) = []
by_after more p pid nobody = []

unfoldable pub turn_steps_in : (n pid : ℕ) → Physical → List Step
turn_steps_in zero pid p = []
turn_steps_in (suc n) pid p = by_after (turn_steps_in n pid) p pid (event_in p pid)

abbrev pub quantum_steps_in : (Physical → List Step) → Physical → (count : ℕ) → Option ℕ → List Step
quantum_steps_in more p count None = []
quantum_steps_in more p count (Some pid) = turn_steps_in count pid p ++ behind_turn more (turn_in count pid p).now (turn_in count pid p).end

unfoldable pub steps_in : List Quantum → Physical → List Step
steps_in [] p = []
steps_in (q ∷ qs) p = quantum_steps_in (steps_in qs) p q.count (picked q.pick (ready_pids p.world.procs))
