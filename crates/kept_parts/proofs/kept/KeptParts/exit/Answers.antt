-- The call and the end are noted, and the process is gone.
use Rattle.std.proofs.Common.{◌≡◌, List, ◌∷◌, sym, ap, subst, ◌∙◌}
use Rattle.std.specs.Prelude.{map}
use Rattle.call_log.specs.Notes.{Note, end_note}
use Rattle.call_log.specs.Values.{got_value}
use Rattle.vfork_exec.specs.Procs.{CanRun}
use Rattle.kept_parts.specs.Kept.{Kept}
use Rattle.kept_parts.specs.Inside.{kept_of}
use Rattle.kept_parts.specs.Calls.{LivesIn, noted_call, exit_of, after_exit}
use Rattle.kept_parts.specs.declared.task.Task.{Task}
use Rattle.kept_parts.specs.Recorded.{event_recorded}
use Rattle.kept_parts.proofs.Common.RunningProcess.{value_found}
use Rattle.kept_parts.proofs.Common.ProcessList.{can_run_lives}
use Rattle.kept_parts.proofs.Common.Recorded.{room_left}
use Rattle.kept_parts.proofs.Ends.Outcomes.{exit_done}
use Rattle.kept_parts.proofs.Ends.Memory.{end_mem}
use Rattle.kept_parts.proofs.Copies.BehindStrays.{holds_inside}
use Rattle.kept_parts.proofs.kept.KeptParts.exit.Goals as goal

pub note_call-requires-clause-room : goal.note_call-requires-clause-room
note_call-requires-clause-room c =
    room_left (kept_of c.self.inside) c.args.self.now c.self.view_is c.args.call.sent.items c.requires.room c.reserve.new.self.notes c.reserve.ensures.same c.new-got.result.items c.new-got.ensures.items

pub returns-clause-exits : goal.returns-clause-exits
returns-clause-exits c = λ e h.
    let k = kept_of c.self.inside in
    let call = c.args.call in
    let noted = c.keep.ensures.notes ∙ ap (λ (ns : List Note). end_note call.pid (exit_of call) ∷ ns) (c.note_call.ensures.notes
    ∙ (λ i. noted_call call 0 (map got_value (c.new-got.ensures.items i)) ∷ c.reserve.ensures.same i)) in
    subst (λ (old : Kept). LivesIn old call.pid e h → c.depart.new.self ≡ after_exit old e h call) c.self.view_is
    (λ runs. exit_done k call e h c.depart.new.self c.keep.new.log.notes c.pass.new.self noted
    (c.pass.ensures ∙ ap (λ (t : Task). event_recorded k.recording t.space) (value_found k.procs call.pid e runs.lives c.get.result.now c.get.ensures)) (c.depart.ensures.goes e h (record { lives = runs.lives; home = runs.home })))

pub returns-clause-memory : goal.returns-clause-memory
returns-clause-memory c =
    let pid = c.args.call.pid in
    let k = kept_of c.self.inside in
    let lives = can_run_lives k.procs pid (subst (λ (s : Kept). CanRun s.procs pid) (sym c.self.view_is) c.requires.ready) in
    end_mem k pid c.self.invariant.0.0 lives c.keep.new.log.notes c.pass.new.self (exit_of c.args.call) c.depart.new.self c.depart.ensures.goes ∙ ap (λ (s : Kept). s.mem) c.self.view_is

pub returns-clause-holds : goal.returns-clause-holds
returns-clause-holds c = λ holds. c.depart.ensures.holds (holds_inside (kept_of c.self.inside) c.args.self.now c.self.view_is holds)
