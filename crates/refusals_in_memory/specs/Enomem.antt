-- Which calls over one memory are answered ENOMEM.
use Rattle.std.specs.Prelude.{◌≡◌, ◌↔◌, ℕ, true, []}
use Rattle.call_log.specs.declared.errno.Errno.TheVariants.{Enomem}
use Rattle.call_log.specs.Errno.{refusal}
use Rattle.call_log.specs.Notes.{CallEntry, weight_of}
use Rattle.machine_world.specs.Recordings.{room_in}
use Rattle.refusal_laws.specs.NoRun.{LacksRun}
use Rattle.memory_world.specs.Physical.{Physical}
use Rattle.go_on_laws.specs.Refusals.{CallIn, ask_in}
use Rattle.refusals_in_memory.specs.Regular.{IsRegularIn}
use Rattle.refusals_in_memory.specs.Refusals.{NotesCall, noted_in}

-- an event notes a call, and the call's reply is this
pub record RepliesIn (p : Physical) (pid value : ℕ) : Type 0 where
  pub entry : CallEntry
  pub noted : NotesCall p pid entry
  pub reply : entry.reply ≡ value

-- the process stands at a call that lacks a run, and the log has room for its note; the run's first stray access is noted before, if the
-- event has it
pub record IsWithoutRunIn (p : Physical) (pid : ℕ) : Type 0 where
  pub call : CallIn (noted_in p pid) pid
  pub room : room_in (noted_in p pid).world (weight_of call.bytes []) ≡ true
  pub lacks : LacksRun (noted_in p pid).world (ask_in (noted_in p pid) pid call)

-- a call is answered so exactly for want of a run, before the run's first stray access and behind it
abbrev pub EnomemIsExactIn : Type 0
EnomemIsExactIn = (p : Physical) (pid : ℕ) → IsRegularIn p → RepliesIn p pid (refusal Enomem) ↔ IsWithoutRunIn p pid
