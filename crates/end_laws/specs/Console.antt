-- What is written to the console: the data of the writes that were noted and whose descriptor was the console, in the order of their
-- notes (POSIX.1-2017, write and writev).
use Rattle.std.specs.Prelude.{◌≡◌, ℕ, zero, suc, ◌*◌, ◌==◌, Bool, true, false, ◌&&◌, ◌||◌, if◌then◌else◌, List, [], ◌∷◌, ◌++◌, map, length, drop, slice_index, Option, Some, None, Ok}
use Rattle.call_log.specs.Notes.{CallEntry}
use Rattle.call_log.specs.Numbers as numbers
use Rattle.fd_tables.specs.declared.view.View.{View}
use Rattle.fd_tables.specs.declared.view.Target.{Target}
use Rattle.fd_tables.specs.declared.view.Target.TheVariants.{Console, Node, Pipe}
use Rattle.fd_tables.specs.Files.{view}
use Rattle.quantum_sched.specs.declared.Quantum.{Quantum}
use Rattle.quantum_sched.specs.Picked.{picked}
use Rattle.vfork_exec.specs.Keyed.{find}
use Rattle.flat_loader.specs.Alone.{Item, is_errno}
use Rattle.machine_world.specs.World.{Process, Rest, World, pid_of}
use Rattle.machine_world.specs.Families.{ready_pids}
use Rattle.machine_world.specs.Event.{Trace, Outcome, went, strays, full, idle, event}
use Rattle.machine_world.specs.Turns.{End, Walk, turn, turns}
use Rattle.machine_world.specs.Boot.{StartLine, boot}
use Rattle.alone_laws.specs.Stays.{kept_calls_of}

-- ---- a call

-- write and writev
abbrev pub is_write : ℕ → Bool
is_write number = number == numbers.write || number == numbers.writev

-- the data of a write; that of writev stands behind its pieces, of eight bytes each
abbrev pub data_of : CallEntry → List ℕ
data_of e = if e.call == numbers.write then e.sent else drop (8 * slice_index e.args 2) e.sent

abbrev pub is_console : Target → Bool
is_console Console = true
is_console (Node node) = false
is_console (Pipe id write) = false

-- the console is open for writing there
abbrev pub takes_output : Option View → Bool
takes_output None = false
takes_output (Some v) = v.way.write && is_console v.target

-- under this descriptor of a process
abbrev pub has_console : World → (fd : ℕ) → Option Process → Bool
has_console w fd None = false
has_console w fd (Some p) = takes_output (view w.rest.files p.table fd)

-- a call that was made in this world writes to the console: it's a write, and its caller has the console under its descriptor
abbrev pub prints : World → CallEntry → Bool
prints w e = is_write e.call && has_console w (slice_index e.args 0) (find pid_of e.pid w.procs)

-- what calls that were made in this world write to the console
abbrev pub printed : World → List CallEntry → List ℕ
printed w [] = []
printed w (e ∷ calls) = (if prints w e then data_of e else []) ++ printed w calls

-- each of them that isn't refused writes all of its data, and its reply is their count
abbrev pub AreWhole : World → List CallEntry → Type 0
AreWhole w [] = Unit {0}
AreWhole w (e ∷ calls) = (prints w e ≡ true → is_errno e.reply ≡ false → e.reply ≡ length (data_of e)) × AreWhole w calls

-- ---- an event

abbrev pub calls_of : Trace → List CallEntry
calls_of t = map (λ (i : Item). i.entry) t.items

-- the calls that it made are noted, and the console has what these write to it, and nothing else
pub record Prints (w : World) (t : Trace) (now : World) : Type 0 where
  pub notes : kept_calls_of now.notes ≡ kept_calls_of w.notes ++ calls_of t
  pub console : now.rest.console ≡ w.rest.console ++ printed w (calls_of t)
  pub whole : AreWhole w (calls_of t)

abbrev pub EventsPrint : Type 0
EventsPrint = (w : World) (pid : ℕ) (now : World) (t : Trace) → event w pid ≡ went now t → Prints w t now

-- ---- a run, event by event

-- the world before an event, and what the event leaves for those who follow
pub record Moment : Type 0 where
  pub world : World
  pub trace : Trace

abbrev pub moments_behind : (World → List Moment) → World → Outcome → List Moment
moments_behind more w (went now t) = record { world = w; trace = t } ∷ (if t.over then [] else more now)
moments_behind more w (strays access) = []
moments_behind more w full = []
moments_behind more w idle = []

-- the events of a turn
unfoldable pub turn_moments : ℕ → ℕ → World → List Moment
turn_moments zero pid w = []
turn_moments (suc n) pid w = moments_behind (turn_moments n pid) w (event w pid)

-- behind a turn the run goes on if nothing ends it
abbrev pub moments_on : (World → List Moment) → World → Option End → List Moment
moments_on more w (Some end) = []
moments_on more w None = more w

abbrev pub quantum_moments : (World → List Moment) → World → ℕ → Option ℕ → List Moment
quantum_moments more w count None = []
quantum_moments more w count (Some pid) = turn_moments count pid w ++ moments_on more (turn count pid w).world (turn count pid w).end

-- the events of a run
unfoldable pub moments : List Quantum → World → List Moment
moments [] w = []
moments (q ∷ qs) w = quantum_moments (moments qs) w q.count (picked q.pick (ready_pids w.procs))

-- the calls that were made, one after the other
abbrev pub all_calls : List Moment → List CallEntry
all_calls [] = []
all_calls (m ∷ ms) = calls_of m.trace ++ all_calls ms

-- what they wrote to the console: each in the world as it was before it
abbrev pub all_printed : List Moment → List ℕ
all_printed [] = []
all_printed (m ∷ ms) = printed m.world (calls_of m.trace) ++ all_printed ms

abbrev pub AllWhole : List Moment → Type 0
AllWhole [] = Unit {0}
AllWhole (m ∷ ms) = AreWhole m.world (calls_of m.trace) × AllWhole ms

-- these are the events of a walk; the notes have their calls, and the console has what these wrote to it, and nothing else
pub record PrintsAlong (w : World) (ms : List Moment) (walk : Walk) : Type 0 where
  pub traces : map (λ (m : Moment). m.trace) ms ≡ walk.traces
  pub notes : kept_calls_of walk.world.notes ≡ kept_calls_of w.notes ++ all_calls ms
  pub console : walk.world.rest.console ≡ w.rest.console ++ all_printed ms
  pub whole : AllWhole ms

abbrev pub TurnsPrint : Type 0
TurnsPrint = (count pid : ℕ) (w : World) → PrintsAlong w (turn_moments count pid w) (turn count pid w)

abbrev pub RunsPrint : Type 0
RunsPrint = (quanta : List Quantum) (w : World) → PrintsAlong w (moments quanta w) (turns quanta w)

-- at boot no call is noted, and the console is as it was
pub record BeginsSilent (rest : Rest) (w : World) : Type 0 where
  pub notes : kept_calls_of w.notes ≡ []
  pub console : w.rest.console ≡ rest.console

abbrev pub BootsPrintNone : Type 0
BootsPrintNone = (rest : Rest) (starts : List StartLine) (w : World) → boot rest starts ≡ Ok w → BeginsSilent rest w
