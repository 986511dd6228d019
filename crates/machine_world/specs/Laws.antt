-- Laws of events.
use Rattle.std.specs.Prelude.{◌≡◌, ℕ, false, if◌then◌else◌, List, [], ◌∷◌, Some, None, Ok}
use Rattle.mmap_rules.specs.Space.{writable_in}
use Rattle.region_watch.specs.Instructions.{Ran, instructions}
use Rattle.vfork_exec.specs.Keyed.{find, change}
use Rattle.call_log.specs.declared.errno.Errno.{Errno}
use Rattle.call_log.specs.Errno.{refusal}
use Rattle.call_log.specs.Notes.{call_note, weight_of}
use Rattle.machine_world.specs.World.{Rest, World, Process, LiveSpace, pid_of, id_of}
use Rattle.machine_world.specs.Asks.{Ask, refuses}
use Rattle.machine_world.specs.Event.{Trace, Outcome, went, full, counted_in, noted, ask_of, entry_of, plain_item, replied, answered, classed, settled, event}
use Rattle.machine_world.specs.Turns.{turn, turns}
use Rattle.machine_world.specs.Recordings.{room_in}
use Rattle.machine_world.specs.Boot.{StartLine, boot}
use Rattle.quantum_sched.specs.declared.Quantum.{Quantum}
use Rattle.machine_world.specs.Courses.{Leads, Halts, moved}

-- up to n instructions of a process over the bytes of its space are as many events: a turn goes on behind them, and where one
-- is not carried out, the process stands at it
abbrev pub InstructionsAreEvents : Type 0
InstructionsAreEvents =
    (n pid : ℕ) (w : World) (p : Process) (s : LiveSpace) (r : Ran) → find pid_of pid w.procs ≡ Some p → find id_of p.space w.spaces ≡ Some s →
    r ≡ instructions n (writable_in s.space.maps) p.regs s.space.bytes →
    let now : World = moved w p r.regs (record s.space { bytes = r.bytes }) r.done in
    Leads pid w r.done now × Halts now pid n r.done r.stop

-- a refused call changes its caller's a0 and pc, the notes and the counts of events, and nothing else
abbrev pub refused_outcome : World → Process → Ask → Errno → Outcome
refused_outcome w p a e =
    if room_in w (weight_of a.sent []) then
    went
    (noted (call_note (entry_of a (refusal e) [])) (counted_in p.space (record w { procs = change pid_of p.pid (λ q. record q { regs = replied p.regs (refusal e) }) w.procs })))
    (record { space = p.space; events = 1; items = plain_item (entry_of a (refusal e) []) ∷ []; begins = None; over = false })
    else full

-- whatever it read, in its own space
abbrev pub RefusalsChangeNothingElse : Type 0
RefusalsChangeNothingElse =
    (w : World) (p : Process) (s : LiveSpace) (bytes : List ℕ) (e : Errno) → find id_of p.space w.spaces ≡ Some s → w.rest.files.changed ≡ [] →
    let a : Ask = ask_of w p s.space bytes in
    classed w a ≡ answered w a (refuses a e) → settled (classed w a) ≡ refused_outcome w p a e

-- between two events no pipe is marked
abbrev pub EventsLeaveNoMark : Type 0
EventsLeaveNoMark = (w : World) (pid : ℕ) (now : World) (t : Trace) → w.rest.files.changed ≡ [] → event w pid ≡ went now t → now.rest.files.changed ≡ []

abbrev pub TurnsLeaveNoMark : Type 0
TurnsLeaveNoMark = (count pid : ℕ) (w : World) → w.rest.files.changed ≡ [] → (turn count pid w).world.rest.files.changed ≡ []

abbrev pub RunsLeaveNoMark : Type 0
RunsLeaveNoMark = (quanta : List Quantum) (w : World) → w.rest.files.changed ≡ [] → (turns quanta w).world.rest.files.changed ≡ []

abbrev pub BootsLeaveNoMark : Type 0
BootsLeaveNoMark = (rest : Rest) (starts : List StartLine) (w : World) → rest.files.changed ≡ [] → boot rest starts ≡ Ok w → w.rest.files.changed ≡ []
