-- A run that goes on is the run of private spaces, up to its first stray access.
use Rattle.std.specs.Prelude.{◌≡◌, ◌≢◌, ℕ, ◌≤◌, Bool, false, List, length, Option, Some, Ok}
use Rattle.byte_words.specs.declared.access.Access.{Access}
use Rattle.call_log.specs.Notes.{stray_note}
use Rattle.quantum_sched.specs.declared.Quantum.{Quantum}
use Rattle.vfork_exec.specs.Procs.{most_entries}
use Rattle.machine_world.specs.World.{Rest, World}
use Rattle.machine_world.specs.Families.{MayRun}
use Rattle.machine_world.specs.Event.{Trace, went, full, noted, event}
use Rattle.machine_world.specs.Turns.{End, stray_at, turn, turns}
use Rattle.machine_world.specs.Boot.{StartLine, boot}
use Rattle.alone_laws.specs.Sound.{IsSound}
use Rattle.alone_laws.specs.Laws.{CanBoot}
use Rattle.memory_world.specs.Physical.{Physical, After, after, no_room, carried_out, has_stray, event_in, WalkIn, turn_in, turns_in, opening_in}
use Rattle.memory_world.specs.Growth.{Adds}
use Rattle.go_on_laws.specs.Alike.{AreHeaders, Stands}

-- ---- boot

-- whatever headers the programs have
abbrev pub BootsGoOn : Type 0
BootsGoOn =
    (rest : Rest) (starts : List StartLine) (w : World) (headers : List (List ℕ)) → CanBoot rest → length starts ≤ most_entries → AreHeaders headers →
    boot rest starts ≡ Ok w → Stands w (opening_in headers w)

-- no stray access is noted then
abbrev pub BootsNoteNoStray : Type 0
BootsNoteNoStray = (rest : Rest) (starts : List StartLine) (w : World) → boot rest starts ≡ Ok w → has_stray w.notes ≡ false

-- ---- events

-- the event is this one, whether a stray access was noted before or not
abbrev pub Comes : Physical → ℕ → After → Type 0
Comes p pid a = (carried_out p pid ≡ a) × (event_in p pid ≡ a)

-- it leaves memory standing for this world
pub record LeadsTo (p : Physical) (pid : ℕ) (now : World) (over : Bool) : Type 0 where
  pub behind : Physical
  pub comes : Comes p pid (after behind over)
  pub stands : Stands now behind

-- an event that doesn't stray in the world of private spaces
abbrev pub EventsGoOn : Type 0
EventsGoOn = (w : World) (p : Physical) (pid : ℕ) (now : World) (t : Trace) → IsSound w → Stands w p → event w pid ≡ went now t → LeadsTo p pid now t.over

-- and one for which the log has no room
abbrev pub FullEventsGoOn : Type 0
FullEventsGoOn = (w : World) (p : Physical) (pid : ℕ) → IsSound w → Stands w p → event w pid ≡ full → Comes p pid (no_room p)

-- ---- turns and runs

-- of a walk of private spaces that ends so in a world: the other one ends alike, and memory stands for the world, in which no stray access
-- is noted
pub record EndsAlike (w : World) (walk : WalkIn) (end : Option End) : Type 0 where
  pub stands : Stands w walk.now
  pub ends : walk.end ≡ end
  pub unstrayed : has_stray w.notes ≡ false

-- and of one that ends at a stray access: that is its newest note and its first stray one. The other one goes on, and only adds to the
-- notes and to the console
pub record GoesPast (w : World) (walk : WalkIn) (pid : ℕ) (access : Access) : Type 0 where
  pub before : World
  pub newest : w ≡ noted (stray_note pid access) before
  pub first : has_stray before.notes ≡ false
  pub adds : Adds w walk.now.world

abbrev pub GoesAlike : World → WalkIn → (end : Option End) → Type 0
GoesAlike w walk (Some (stray_at pid access)) = GoesPast w walk pid access
GoesAlike w walk end = EndsAlike w walk end

abbrev pub TurnsGoOn : Type 0
TurnsGoOn =
    (count pid : ℕ) (w : World) (p : Physical) → IsSound w → MayRun w pid → Stands w p → has_stray w.notes ≡ false →
    GoesAlike (turn count pid w).world (turn_in count pid p) (turn count pid w).end

abbrev pub RunsGoOn : Type 0
RunsGoOn =
    (quanta : List Quantum) (w : World) (p : Physical) → IsSound w → Stands w p → has_stray w.notes ≡ false →
    GoesAlike (turns quanta w).world (turns_in quanta p) (turns quanta w).end

-- no run that goes on ends at a stray access
abbrev pub RunsNeverStray : Type 0
RunsNeverStray = (quanta : List Quantum) (p : Physical) (pid : ℕ) (access : Access) → (turns_in quanta p).end ≢ Some (stray_at pid access)
