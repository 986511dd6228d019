-- What a system call, a signal and a stray access leave.
use Rattle.std.specs.Prelude.{◌≡◌, ℕ, Bool, true, false, Some, None, option_map, Result, Ok, Err, ⊤}
use Rattle.std.specs.declared.alloc.AllocError.{AllocError}
use Rattle.byte_words.specs.declared.access.Access.{Access}
use Rattle.call_log.specs.Notes.{stray_note}
use Rattle.vfork_exec.specs.declared.family.State.{State}
use Rattle.vfork_exec.specs.declared.family.State.TheVariants.{Ready, Waiting, OnPipe, Lent}
use Rattle.vfork_exec.specs.Procs.{Listed, process, state_at, Lives}
use Rattle.machine_world.specs.Event.{Trace, Outcome, went, strays, full, idle, noted}
use Rattle.kept_parts.specs.declared.served.Served.{Served}
use Rattle.kept_parts.specs.declared.served.Served.TheVariants as served
use Rattle.kept_parts.specs.Kept.{Kept}
use Rattle.kept_parts.specs.Stands.{About, later, world_of}

-- a call that went: whether the turn goes on, whether it is an event of its space or a wait, and whether the process lives
abbrev pub Went : Trace → Kept → ℕ → Served → Type 0
Went t new pid served.Replied = (t.over ≡ false) × (t.events ≡ 1) × Lives new.procs pid
Went t new pid served.TurnEnds = (t.over ≡ true) × (t.events ≡ 1) × Lives new.procs pid
Went t new pid served.Waits = (t.over ≡ true) × (t.events ≡ 0) × Lives new.procs pid
Went t new pid served.Ended = (t.over ≡ true) × (t.events ≡ 1) × (process new.procs pid ≡ None)
Went t new pid (served.Stray access) = ⊥
Went t new pid served.LogFull = ⊥

abbrev pub went_by : Served → Bool
went_by served.Replied = true
went_by served.TurnEnds = true
went_by served.Waits = true
went_by served.Ended = true
went_by (served.Stray access) = false
went_by served.LogFull = false

-- it waits until a child has ended or a pipe changes
abbrev pub is_waiting : State → Bool
is_waiting Ready = false
is_waiting (Waiting who) = true
is_waiting (OnPipe pipe) = true
is_waiting (Lent child) = false

-- a process that lives, and whether it waits
abbrev pub WaitsAt : {P : Type 0} → Listed P → ℕ → Bool → Type 0
WaitsAt procs pid waits = option_map is_waiting (state_at procs pid) ≡ Some waits

-- what the answer alone tells, behind a stray access too: a stray access changed nothing; who ends its turn doesn't wait, and who
-- waits does, with the files as they were and without a note
abbrev pub Tells : Kept → Kept → ℕ → Served → Type 0
Tells old new pid served.Replied = Unit {0}
Tells old new pid served.TurnEnds = WaitsAt new.procs pid false
Tells old new pid served.Waits = WaitsAt new.procs pid true × (new.files ≡ old.files) × (new.notes ≡ old.notes)
Tells old new pid served.Ended = Unit {0}
Tells old new pid (served.Stray access) = new ≡ old
Tells old new pid served.LogFull = Unit {0}

abbrev pub Strays : Access → Kept → Kept → Served → Type 0
Strays access old new (served.Stray seen) = (seen ≡ access) × (new ≡ old)
Strays access old new served.Replied = ⊥
Strays access old new served.TurnEnds = ⊥
Strays access old new served.Waits = ⊥
Strays access old new served.Ended = ⊥
Strays access old new served.LogFull = ⊥

abbrev pub IsFull : Kept → Kept → Served → Type 0
IsFull old new served.LogFull = new ≡ old
IsFull old new served.Replied = ⊥
IsFull old new served.TurnEnds = ⊥
IsFull old new served.Waits = ⊥
IsFull old new served.Ended = ⊥
IsFull old new (served.Stray access) = ⊥

-- by what comes of the call in the world that the old parts stand for: out of memory nothing changed
abbrev pub Answered : About → Outcome → Kept → Kept → ℕ → Served → Type 0
Answered a (went now t) old new pid s = (now ≡ world_of (later 1 a) new) × Went t new pid s
Answered a (strays access) old new pid s = Strays access old new s
Answered a full old new pid s = IsFull old new s
Answered a idle old new pid s = ⊥

abbrev pub Serves : About → Outcome → Kept → Kept → ℕ → Result Served AllocError → Type 0
Serves a outcome old new pid (Ok s) = Answered a outcome old new pid s
Serves a outcome old new pid (Err error) = new ≡ old

-- a process died: it is gone, and the turn is over
abbrev pub Died : About → Outcome → Kept → ℕ → Type 0
Died a (went now t) new pid = (now ≡ world_of (later 1 a) new) × (t.over ≡ true) × (process new.procs pid ≡ None)
Died a (strays access) new pid = ⊥
Died a full new pid = ⊥
Died a idle new pid = ⊥

abbrev pub Dies : About → Outcome → Kept → Kept → ℕ → Result ⊤ AllocError → Type 0
Dies a outcome old new pid (Ok done) = Died a outcome new pid
Dies a outcome old new pid (Err error) = new ≡ old

-- a stray access adds its note alone
abbrev pub NotesStray : ℕ → Access → Kept → Kept → Result ⊤ AllocError → Type 0
NotesStray pid access old new (Ok done) = (a : About) → world_of a new ≡ noted (stray_note pid access) (world_of a old)
NotesStray pid access old new (Err error) = new ≡ old
