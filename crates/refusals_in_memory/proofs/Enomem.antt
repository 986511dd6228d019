-- Over one memory a call is answered ENOMEM exactly for want of a run.
use Rattle.std.proofs.Common.{◌≡◌, ℕ, Bool, true, false, inl, inr, List, [], ◌∷◌, ◌++◌, Option, Some, None, Result, refl, sym, ap, ◌∙◌}
use Rattle.std.specs.Prelude.{option_map, if◌then◌else◌}
use Rattle.byte_words.specs.declared.access.Access.{Access}
use Rattle.call_log.specs.declared.errno.Errno.{Errno}
use Rattle.call_log.specs.declared.errno.Errno.TheVariants.{Enomem, Enametoolong}
use Rattle.call_log.specs.Errno.{refusal}
use Rattle.call_log.specs.Notes.{CallEntry, Note, call_note, stray_note, weight_of}
use Rattle.call_log.specs.Strings.{program_strings}
use Rattle.mmap_rules.specs.declared.want.Want.{Want}
use Rattle.flat_loader.specs.Alone.{is_errno}
use Rattle.machine_world.specs.World.{World}
use Rattle.machine_world.specs.Asks.{Ask, arg, refuses, with_ok}
use Rattle.machine_world.specs.Rows.{row}
use Rattle.machine_world.specs.MapCalls.{own_run, maps as maps_to, or_own, mapped, mmap2_row}
use Rattle.machine_world.specs.Recordings.{room_in}
use Rattle.machine_world.specs.Event.{Trace, went, full, entry_of, answered, exec_at, exec_fitting, exec_program, exec_strings, exec}
use Rattle.machine_world.proofs.Refused.{is_refused}
use Rattle.alone_laws.proofs.RowSpaces.{row-mmap2}
use Rattle.refusal_laws.specs.NoRun.{LacksRunToMap, LacksRunToExec, LacksRun}
use Rattle.refusal_laws.proofs.Errnos.{same_number}
use Rattle.memory_world.specs.Physical.{Physical, after, carried, answered_in, classed_in, first_stray_in, with_stray, event_in}
use Rattle.go_on_laws.specs.Refusals.{ask_in, over_memory}
use Rattle.go_on_laws.proofs.Refused.{refused_events_leave_memory}
use Rattle.refusals_in_memory.specs.Regular.{IsRegularIn}
use Rattle.refusals_in_memory.specs.Refusals.{noted_in}
use Rattle.refusals_in_memory.specs.Enomem.{RepliesIn, IsWithoutRunIn, EnomemIsExactIn}
use Rattle.refusals_in_memory.proofs.Errnos.{IsItsCall, its_call}

-- ---- a call that lacks a run is refused

map_in : (p : Physical) (a : Ask) → a.number ≡ 222 → classed_in p a ≡ answered_in p a (row a)
map_in p a number = rw number refl

exec_in : (p : Physical) (a : Ask) → a.number ≡ 221 → classed_in p a ≡ carried p p.memory (exec p.world a)
exec_in p a number = rw number refl

refused_map : (a : Ask) → a.number ≡ 222 → LacksRunToMap a → row a ≡ refuses a Enomem
unfolding mmap2_row
refused_map a number l =
    row-mmap2 a number
    ∙ ap (λ (r : Result Want Errno). with_ok a r (mapped a)) l.asks ∙ (λ i. maps_to a l.want (or_own (l.no_copy i) (option_map (own_run l.want) (l.no_run i))))

refused_exec : (w : World) (a : Ask) → LacksRunToExec w a → exec w a ≡ answered w a (refuses a Enomem)
unfolding exec
refused_exec w a l =
    ap (λ (b : Bool). if b then exec_strings w a (program_strings a.sent (arg a 1) (arg a 2)) else answered w a (refuses a Enametoolong)) l.ends
    ∙ ap (exec_strings w a) l.read ∙ ap (exec_program w a l.strings) l.leads ∙ ap (exec_fitting w a l.program l.strings) l.fits ∙ ap (exec_at w a l.program l.strings) l.no_run

refused_in : (p : Physical) (a : Ask) → LacksRun p.world a → classed_in p a ≡ answered_in p a (refuses a Enomem)
refused_in p a (inl l) = map_in p a l.0 ∙ ap (answered_in p a) (refused_map a l.0 l.1)
refused_in p a (inr l) = exec_in p a l.0 ∙ ap (carried p p.memory) (refused_exec p.world a l.1)

-- ---- a note, and the room for it

room_if : (p : Physical) (b : Bool) (now : World) (t : Trace) (left : Physical) (over : Bool) → over_memory p (if b then went now t else full) ≡ after left over → b ≡ true
room_if p true now t left over is = refl
room_if p false now t left over is = absurd cc

-- the note of the run's first stray access, if the event has it
earlier_notes : ℕ → Option Access → List Note
earlier_notes pid None = []
earlier_notes pid (Some access) = stray_note pid access ∷ []

earlier_are : (p : Physical) (pid : ℕ) (o : Option Access) → (with_stray pid o p).world.notes ≡ earlier_notes pid o ++ p.world.notes
unfolding earlier_notes
earlier_are p pid None = refl
earlier_are p pid (Some access) = refl

module _ (p : Physical) (pid : ℕ) where
  abbrev n : Physical
  n = noted_in p pid

  replies_if : (value : ℕ) (e : CallEntry) (b : Bool) (now : World) (t : Trace) → event_in p pid ≡ over_memory n (if b then went now t else full) → b ≡ true
      → now.notes ≡ call_note e ∷ n.world.notes → e.reply ≡ value → RepliesIn p pid value
  replies_if value e b now t is room notes reply = record {
    entry = e;
    noted = record {
      now = record n { world = now };
      over = t.over;
      goes = is ∙ ap (λ (c : Bool). over_memory n (if c then went now t else full)) room;
      later = [];
      earlier = earlier_notes pid (first_stray_in p pid);
      notes = notes ∙ ap (λ (ns : List Note). call_note e ∷ ns) (earlier_are p pid (first_stray_in p pid));
    };
    reply = reply;
  }

  module _ (r : IsRegularIn p) where
    for_want : RepliesIn p pid (refusal Enomem) → IsWithoutRunIn p pid
    for_want h =
        let its : IsItsCall p pid h.entry = its_call p pid h.entry r h.noted (ap is_errno h.reply ∙ is_refused Enomem) in
        record {
          call = its.refuses.call;
          room = room_if n (room_in n.world (weight_of its.refuses.call.bytes [])) _ _ h.noted.now h.noted.over (sym its.outcome ∙ h.noted.goes);
          lacks = its.refuses.lacks (same_number its.refuses.errno (ap (λ (e : CallEntry). e.reply) (sym its.note) ∙ h.reply));
        }

    each_want : IsWithoutRunIn p pid → RepliesIn p pid (refusal Enomem)
    each_want h =
        let a : Ask = ask_in n pid h.call in
        replies_if (refusal Enomem) (entry_of a (refusal Enomem) []) (room_in n.world (weight_of h.call.bytes [])) _ _
        (refused_events_leave_memory p pid r.shown r.unmarked h.call Enomem (refused_in n a h.lacks)) h.room refl refl

pub enomem_is_exact_in : EnomemIsExactIn
enomem_is_exact_in p pid r = (for_want p pid r, each_want p pid r)
