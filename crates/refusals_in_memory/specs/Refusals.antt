-- Which replies of system calls are refusals, over one memory.
use Rattle.std.specs.Prelude.{◌≡◌, ℕ, Bool, true, List, [], ◌∷◌, ◌++◌}
use Rattle.call_log.specs.declared.errno.Errno.{Errno}
use Rattle.call_log.specs.Errno.{refusal}
use Rattle.call_log.specs.Notes.{CallEntry, Note, call_note}
use Rattle.flat_loader.specs.Alone.{is_errno}
use Rattle.machine_world.specs.Event.{entry_of}
use Rattle.machine_world.specs.Laws.{refused_outcome}
use Rattle.memory_world.specs.Physical.{Physical, after, first_stray_in, with_stray, event_in}
use Rattle.go_on_laws.specs.Refusals.{CallIn, ask_in, over_memory, IsRefusedIn}
use Rattle.refusals_in_memory.specs.Regular.{IsRegularIn}

-- an event notes a call: the call's note is among those that it puts before the notes that were there
pub record NotesCall (p : Physical) (pid : ℕ) (e : CallEntry) : Type 0 where
  pub now : Physical
  pub over : Bool
  pub goes : event_in p pid ≡ after now over
  pub later : List Note
  pub earlier : List Note
  pub notes : now.world.notes ≡ later ++ call_note e ∷ earlier ++ p.world.notes

-- with the run's first stray access noted, if the event has it
abbrev pub noted_in : Physical → ℕ → Physical
noted_in p pid = with_stray pid (first_stray_in p pid) p

-- the call is refused, and the note is that of this refusal: the event changes the caller's a0 and pc, the notes and the counts of events,
-- and nothing else
pub record IsRefusedCall (p : Physical) (pid : ℕ) (e : CallEntry) : Type 0 where
  pub call : CallIn (noted_in p pid) pid
  pub errno : Errno
  pub note : e ≡ entry_of (ask_in (noted_in p pid) pid call) (refusal errno) []
  pub refused : IsRefusedIn (noted_in p pid) pid call errno
  pub outcome : event_in p pid ≡ over_memory (noted_in p pid) (refused_outcome (noted_in p pid).world call.process (ask_in (noted_in p pid) pid call) errno)

-- each call that is noted with an errno as its reply
abbrev pub ErrnosAreRefusedIn : Type 0
ErrnosAreRefusedIn = (p : Physical) (pid : ℕ) (e : CallEntry) → IsRegularIn p → NotesCall p pid e → is_errno e.reply ≡ true → IsRefusedCall p pid e
