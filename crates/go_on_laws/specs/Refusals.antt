-- What a system call that is refused leaves of a run over one memory.
use Rattle.std.specs.Prelude.{◌≡◌, ℕ, List, [], Some, Ok}
use Rattle.rv32im_step.specs.Meaning.{call}
use Rattle.call_log.specs.declared.errno.Errno.{Errno}
use Rattle.call_log.specs.Sent.{sent}
use Rattle.vfork_exec.specs.Keyed.{find}
use Rattle.flat_loader.specs.Alone.{number_of, args_of}
use Rattle.machine_world.specs.World.{Process, LiveSpace, pid_of, id_of}
use Rattle.machine_world.specs.Asks.{Ask, refuses}
use Rattle.machine_world.specs.Event.{Outcome, went, strays, full, idle, ask_of}
use Rattle.machine_world.specs.Laws.{refused_outcome}
use Rattle.memory_world.specs.Physical.{Physical, After, after, no_room, nobody, next_meaning, answered_in, classed_in, carried_out, first_stray_in, with_stray, event_in}
use Rattle.memory_world.specs.Courses.{IsShown}

-- a process that lives stands at a system call, and what it reads is in memory
pub record CallIn (p : Physical) (pid : ℕ) : Type 0 where
  pub process : Process
  pub lives : find pid_of pid p.world.procs ≡ Some process
  pub space : LiveSpace
  pub has : find id_of process.space p.world.spaces ≡ Some space
  pub at_call : next_meaning p process ≡ call
  pub bytes : List ℕ
  pub reads : sent (number_of process.regs) (args_of process.regs) p.memory ≡ Ok bytes

-- as it is made
abbrev pub ask_in : (p : Physical) (pid : ℕ) → CallIn p pid → Ask
ask_in p pid c = ask_of p.world c.process c.space.space c.bytes

-- only the world changes, and no byte of memory
abbrev pub over_memory : Physical → Outcome → After
over_memory p (went now t) = after (record p { world = now }) t.over
over_memory p (strays access) = nobody
over_memory p full = no_room p
over_memory p idle = nobody

-- it is refused
abbrev pub IsRefusedIn : (p : Physical) (pid : ℕ) → CallIn p pid → Errno → Type 0
IsRefusedIn p pid c e = classed_in p (ask_in p pid c) ≡ answered_in p (ask_in p pid c) (refuses (ask_in p pid c) e)

-- and leaves what a refused call leaves of a world of private spaces, over the memory that it found
abbrev pub RefusalsLeaveMemory : Type 0
RefusalsLeaveMemory =
    (p : Physical) (pid : ℕ) (c : CallIn p pid) (e : Errno) → IsShown p → p.world.rest.files.changed ≡ [] → IsRefusedIn p pid c e →
    carried_out p pid ≡ over_memory p (refused_outcome p.world c.process (ask_in p pid c) e)

-- so an event whose call is refused changes the caller's a0 and pc, the notes and the counts of events, and nothing else; its notes may have
-- the run's first stray access
abbrev pub RefusedEventsLeaveMemory : Type 0
RefusedEventsLeaveMemory =
    (p : Physical) (pid : ℕ) → IsShown p → p.world.rest.files.changed ≡ [] →
    let noted : Physical = with_stray pid (first_stray_in p pid) p in
    (c : CallIn noted pid) (e : Errno) → IsRefusedIn noted pid c e →
    event_in p pid ≡ over_memory noted (refused_outcome noted.world c.process (ask_in noted pid c) e)
