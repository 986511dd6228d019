-- Which replies are refusals and what those leave, and which refusals are ENOMEM.
use Rattle.std.specs.Prelude.{◌≡◌, ◌↔◌, ℕ, ◌≤◌, true, List, [], ◌∷◌, length, Ok, Err}
use Rattle.quantum_sched.specs.declared.Quantum.{Quantum}
use Rattle.call_log.specs.declared.errno.Errno.{Errno}
use Rattle.call_log.specs.declared.errno.Errno.TheVariants.{Enomem}
use Rattle.call_log.specs.Errno.{refusal}
use Rattle.call_log.specs.Notes.{weight_of}
use Rattle.fd_tables.specs.Files.{nothing_open}
use Rattle.vfork_exec.specs.Procs.{most_entries}
use Rattle.flat_loader.specs.Alone.{Item, is_errno}
use Rattle.machine_world.specs.World.{Rest, World}
use Rattle.machine_world.specs.Families.{MayRun}
use Rattle.machine_world.specs.Event.{Trace, went, event}
use Rattle.machine_world.specs.Recordings.{room_in}
use Rattle.machine_world.specs.Turns.{turn, turns}
use Rattle.machine_world.specs.Boot.{StartLine, no_run, started, boot}
use Rattle.machine_world.specs.Laws.{refused_outcome}
use Rattle.alone_laws.specs.Laws.{CanBoot}
use Rattle.refusal_laws.specs.Calls.{Call, ask}
use Rattle.refusal_laws.specs.Regular.{IsRegularWorld}
use Rattle.refusal_laws.specs.NoRun.{LacksRun, LacksRunToStart, LacksRunToBoot}

-- ---- what holds of every world

abbrev pub BootsAreRegular : Type 0
BootsAreRegular =
    (rest : Rest) (starts : List StartLine) (w : World) → CanBoot rest → rest.files ≡ nothing_open rest.files.stdin → length starts ≤ most_entries →
    boot rest starts ≡ Ok w → IsRegularWorld w

abbrev pub EventsKeepRegular : Type 0
EventsKeepRegular = (w : World) (pid : ℕ) (now : World) (t : Trace) → IsRegularWorld w → MayRun w pid → event w pid ≡ went now t → IsRegularWorld now

abbrev pub TurnsKeepRegular : Type 0
TurnsKeepRegular = (count pid : ℕ) (w : World) → IsRegularWorld w → MayRun w pid → IsRegularWorld (turn count pid w).world

abbrev pub RunsKeepRegular : Type 0
RunsKeepRegular = (quanta : List Quantum) (w : World) → IsRegularWorld w → IsRegularWorld (turns quanta w).world

-- ---- refusals

-- an event makes a call, and the call is answered this
pub record IsReplied (w : World) (pid value : ℕ) : Type 0 where
  pub now : World
  pub trace : Trace
  pub goes : event w pid ≡ went now trace
  pub item : Item
  pub made : trace.items ≡ item ∷ []
  pub reply : item.entry.reply ≡ value

-- a call is refused: that changes its caller's a0 and pc, the notes and the counts of events, and nothing else
pub record IsRefused (w : World) (pid value : ℕ) : Type 0 where
  pub call : Call w pid
  pub errno : Errno
  pub reply : value ≡ refusal errno
  pub outcome : event w pid ≡ refused_outcome w call.process (ask w pid call) errno

-- each reply that is an errno is a refusal
abbrev pub ErrnosAreRefusals : Type 0
ErrnosAreRefusals = (w : World) (pid value : ℕ) → IsRegularWorld w → IsReplied w pid value → is_errno value ≡ true → IsRefused w pid value

-- ---- ENOMEM

-- a call that lacks a run, where the log has room for its note
pub record IsWithoutRun (w : World) (pid : ℕ) : Type 0 where
  pub call : Call w pid
  pub room : room_in w (weight_of call.bytes []) ≡ true
  pub lacks : LacksRun w (ask w pid call)

-- a call is answered so exactly for want of a run
abbrev pub EnomemIsExact : Type 0
EnomemIsExact = (w : World) (pid : ℕ) → IsRegularWorld w → IsReplied w pid (refusal Enomem) ↔ IsWithoutRun w pid

-- ---- the opening world

-- a start line finds no run exactly where it lacks one
abbrev pub NoRunIsExact : Type 0
NoRunIsExact = (w : World) (s : StartLine) (line : ℕ) → (started w s ≡ Err (no_run line)) ↔ ((line ≡ s.line) × LacksRunToStart w s)

-- and a boot exactly at a line that lacks one, behind those that were loaded
abbrev pub BootsWithoutRunAreExact : Type 0
BootsWithoutRunAreExact = (rest : Rest) (starts : List StartLine) (line : ℕ) → (boot rest starts ≡ Err (no_run line)) ↔ LacksRunToBoot rest starts line
