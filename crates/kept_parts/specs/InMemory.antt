-- The one memory that the parts stand for, and what a system call and a signal leave of it.
use Rattle.std.specs.Prelude.{◌≡◌, ℕ, Bool, true, false, if◌then◌else◌, List, ◌∷◌, drop, take, map, Option, Some, None, Result, Ok, Err, ⊤}
use Rattle.std.specs.declared.alloc.AllocError.{AllocError}
use Rattle.bflt_format.specs.Values.{Values}
use Rattle.bflt_format.specs.Spelling.{spell}
use Rattle.flat_loader.specs.Original.{header_len}
use Rattle.region_watch.specs.Private.{physical}
use Rattle.vfork_exec.specs.Procs.{process, Lives}
use Rattle.byte_words.specs.declared.access.Access.{Access}
use Rattle.call_log.specs.Notes.{stray_note}
use Rattle.machine_world.specs.Event.{Outcome, called, stray_in}
use Rattle.memory_world.specs.Physical.{Physical, After, after, no_room, nobody, carried, called_in, has_stray, with_stray, first_memory}
use Rattle.region_watch.specs.declared.mode.Mode.{Mode}
use Rattle.region_watch.specs.declared.mode.Mode.TheVariants.{Halt, GoOn}
use Rattle.kept_parts.specs.declared.served.Served.{Served}
use Rattle.kept_parts.specs.declared.served.Served.TheVariants as served
use Rattle.kept_parts.specs.Kept.{Kept}
use Rattle.kept_parts.specs.Stands.{About, later, world_of}

-- the header of a program: the first bytes of its flat file
abbrev pub header_of : Values → List ℕ
header_of f = take header_len (spell f)

abbrev pub headers_of : List Values → List (List ℕ)
headers_of programs = map header_of programs

-- the memory, and the world whose spaces show it
unfoldable pub physical_of : List (List ℕ) → About → Kept → Physical
physical_of headers a k = record { world = world_of a k; memory = physical k.mem; headers = headers }

-- whether the turn is over, and whether the process lives
abbrev pub Over : Bool → Kept → ℕ → Served → Type 0
Over over new pid served.Replied = (over ≡ false) × Lives new.procs pid
Over over new pid served.TurnEnds = (over ≡ true) × Lives new.procs pid
Over over new pid served.Waits = (over ≡ true) × Lives new.procs pid
Over over new pid served.Ended = (over ≡ true) × (process new.procs pid ≡ None)
Over over new pid (served.Stray access) = ⊥
Over over new pid served.LogFull = ⊥

abbrev pub IsLogFull : Served → Type 0
IsLogFull served.LogFull = Unit {0}
IsLogFull served.Replied = ⊥
IsLogFull served.TurnEnds = ⊥
IsLogFull served.Waits = ⊥
IsLogFull served.Ended = ⊥
IsLogFull (served.Stray access) = ⊥

-- by what comes of the call in the one memory
abbrev pub GoesIn : List (List ℕ) → About → After → Kept → Kept → ℕ → Served → Type 0
GoesIn headers a (after p over) old new pid s = (p ≡ physical_of headers (later 1 a) new) × Over over new pid s
GoesIn headers a (no_room p) old new pid s = (p ≡ physical_of headers a old) × (new ≡ old) × IsLogFull s
GoesIn headers a nobody old new pid s = ⊥

-- out of memory nothing changed
abbrev pub ServesIn : List (List ℕ) → About → After → Kept → Kept → ℕ → Result Served AllocError → Type 0
ServesIn headers a outcome old new pid (Ok s) = GoesIn headers a outcome old new pid s
ServesIn headers a outcome old new pid (Err error) = new ≡ old

-- within its own bytes a call may stray, which says nothing
abbrev pub UnlessStray : Served → Type 0 → Type 0
UnlessStray (served.Stray access) T = Unit {0}
UnlessStray served.Replied T = T
UnlessStray served.TurnEnds T = T
UnlessStray served.Waits T = T
UnlessStray served.Ended T = T
UnlessStray served.LogFull T = T

abbrev pub InReach : Mode → List (List ℕ) → About → After → Kept → Kept → ℕ → Result Served AllocError → Type 0
InReach Halt headers a outcome old new pid (Ok s) = UnlessStray s (GoesIn headers a outcome old new pid s)
InReach GoOn headers a outcome old new pid (Ok s) = GoesIn headers a outcome old new pid s
InReach mode headers a outcome old new pid (Err error) = new ≡ old

-- a process died in the one memory: it is gone, and the turn is over
abbrev pub DiedIn : List (List ℕ) → About → After → Kept → ℕ → Type 0
DiedIn headers a (after p over) new pid = (p ≡ physical_of headers (later 1 a) new) × (over ≡ true) × (process new.procs pid ≡ None)
DiedIn headers a (no_room p) new pid = ⊥
DiedIn headers a nobody new pid = ⊥

abbrev pub DiesIn : List (List ℕ) → About → After → Kept → Kept → ℕ → Result ⊤ AllocError → Type 0
DiesIn headers a outcome old new pid (Ok done) = DiedIn headers a outcome new pid
DiesIn headers a outcome old new pid (Err error) = new ≡ old

-- a call that was carried out as in the world of private spaces, over the memory that it found
abbrev pub ChangesIn : List (List ℕ) → About → Outcome → Kept → Kept → Result ⊤ AllocError → Type 0
ChangesIn headers a outcome old new (Ok done) =
    carried (physical_of headers a old) (physical old.mem) outcome ≡ after (physical_of headers (later 1 a) new) false
ChangesIn headers a outcome old new (Err error) = new ≡ old

-- where memory had the blocks of the programs that began, over their headers, and else zeros, it has those of one program more
abbrev pub LaysOn : List (List ℕ) → Kept → Kept → Type 0
LaysOn headers old new =
    (a : About) → physical old.mem ≡ first_memory headers (world_of a old) → physical new.mem ≡ first_memory headers (world_of a new)

-- ---- a call of a run that goes on

-- the range of a call that is the run's first to stray, by the world of private spaces
unfoldable pub first_range : Physical → ℕ → Option Access
first_range p pid = if has_stray p.world.notes then None else stray_in (called p.world pid)

-- it is noted before the call's own note
unfoldable pub called_on : Physical → ℕ → After
called_on p pid = called_in (with_stray pid (first_range p pid) p) pid

-- the parts with its note
abbrev pub with_range : ℕ → Option Access → Kept → Kept
with_range pid None k = k
with_range pid (Some access) k = record k { notes = stray_note pid access ∷ k.notes }

-- and without the newest note
abbrev pub without_newest : Kept → Kept
without_newest k = record k { notes = drop 1 k.notes }

-- where the log has no room for the call nothing changed but for that note, and out of memory nothing at all
abbrev pub ServesOn : List (List ℕ) → About → Kept → Kept → ℕ → Result Served AllocError → Type 0
ServesOn headers a old new pid (Ok s) =
    GoesIn headers a (called_on (physical_of headers a old) pid) (with_range pid (first_range (physical_of headers a old) pid) old) new pid s
ServesOn headers a old new pid (Err error) = new ≡ old
