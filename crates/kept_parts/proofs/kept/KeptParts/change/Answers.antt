-- The files are changed, and the call has its reply.
use Rattle.std.proofs.Common.{rules, ◌≡◌, arith, List, [], ◌∷◌, length, refl, sym, ap, subst, ◌∙◌}
use Rattle.std.specs.Prelude.{map}
use Rattle.std.proofs.lemmas.Result.{err_from_is_err_and}
use Rattle.call_log.specs.Notes.{Note}
use Rattle.call_log.specs.Values.{got_value}
use Rattle.file_calls.specs.Calls.{MadeBy}
use Rattle.vfork_exec.specs.Procs.{Lives}
use Rattle.machine_world.specs.Rows.{row}
use Rattle.kept_parts.specs.Kept.{Kept}
use Rattle.kept_parts.specs.Inside.{kept_of}
use Rattle.kept_parts.specs.Regular.{IsRegular}
use Rattle.kept_parts.specs.Calls.{noted_call, Changed, ChangesParts, Caller, asked_by}
use Rattle.kept_parts.specs.declared.task.Task.{Task}
use Rattle.kept_parts.specs.Recorded.{event_recorded}
use Rattle.kept_parts.proofs.Common.Recorded.{room_inside, room_left}
use Rattle.kept_parts.proofs.Common.RunningProcess.{value_found}
use Rattle.kept_parts.proofs.Replies.Outcomes.{made_by, maps_none_changed}
use Rattle.kept_parts.proofs.Copies.BehindCalls.{plain_ask, counts, call_strays, copies_changed}
use Rattle.kept_parts.proofs.Replies.Finished.{regular_finished, is_rest, changed_by}
use Rattle.kept_parts.proofs.Copies.BehindChanges.{room_counts}
use Rattle.kept_parts.proofs.Copies.BehindStrays.{holds_inside, clean, none_clean, calls_clean, cleaned, copies_clean}
use Rattle.kept_parts.proofs.kept.KeptParts.change.Goals as goal

abbrev left : goal.After-drop-call-in_err-value → Kept
left c = record (kept_of c.self.inside) { tree = c.change-changed.new.tree; files = c.change-changed.new.files.open_files; notes = c.or_unreserve.new.log.notes; console = c.change-changed.new.console.items }

abbrev new_parts : goal.After-finish → Kept
new_parts c = record (kept_of c.self.inside) {
  tree = c.change-changed.new.tree;
  files = c.change-changed.new.files.open_files;
  procs = c.finish.new.procs;
  notes = c.finish.new.log.notes;
  console = c.change-changed.new.console.items;
  recording = c.pass.new.self;
}

pub finish-requires-clause-room : goal.finish-requires-clause-room
finish-requires-clause-room c =
    room_left (kept_of c.self.inside) c.args.self.now c.self.view_is c.args.call.sent.items c.requires.room c.or_unreserve.new.log.notes (c.or_unreserve.ensures.notes ∙ c.reserve.ensures.same) c.new-got.result.items c.new-got.ensures.items

stays : (c : goal.After-drop-call-in_err-value) → kept_of c.self.inside ≡ left c
stays c =
    let k = kept_of c.self.inside in
    let made : MadeBy c.args.call (plain_ask k c.args.call) = record { pid = refl; parent = refl; table = refl; number = refl; args = refl; sent = refl } in
    let same = rw (← c.in_err-value.ensures.same) at (c.change-changed.ensures.changes (plain_ask k c.args.call) made (record { tree = refl; files = refl; console = refl })) in
    λ i. record k { tree = sym same.0 i; files = sym same.1 i; console = sym same.2 i; notes = sym (c.or_unreserve.ensures.notes ∙ c.reserve.ensures.same) i }

pub invariant_of-self-in_err-value : goal.invariant_of-self-in_err-value
invariant_of-self-in_err-value c = (subst IsRegular (stays c) c.self.invariant.0, search rules, c.self.invariant.2)

pub returns-in_err-value-clause-holds : goal.returns-in_err-value-clause-holds
returns-in_err-value-clause-holds c = holds_inside (left c) c.args.self.now (sym (stays c) ∙ c.self.view_is)

pub returns-in_err-value-clause-changes : goal.returns-in_err-value-clause-changes
returns-in_err-value-clause-changes c = λ a.
    let k = kept_of c.self.inside in
    let call = c.args.call in
    let p = err_from_is_err_and c.from_residual-in_err-value.result c.from_residual-in_err-value.ensures.1 in
    subst (λ (old : Kept). (caller : Caller old call) → ChangesParts a old caller.entry caller.held call (row (asked_by a caller)) (left c) c.from_residual-in_err-value.result) c.self.view_is
    (λ caller.
    let same = rw (← c.in_err-value.ensures.same) at (c.change-changed.ensures.changes (asked_by a caller) (made_by a k caller.entry caller.held call caller.runs caller.stands) (is_rest a k caller.entry caller.held call caller.runs caller.stands c.self.inside.files refl)) in
    rw p.1 (λ i. record k { tree = same.0 i; files = same.1 i; console = same.2 i; notes = (c.or_unreserve.ensures.notes ∙ c.reserve.ensures.same) i }))

pub invariant_of-self-2 : goal.invariant_of-self-2
invariant_of-self-2 c =
    let k = kept_of c.self.inside in
    let lives = subst (λ (s : Kept). Lives s.procs c.args.call.pid) (sym c.self.view_is) c.requires.lives in
    let call = c.args.call in
    let few = room_counts k.notes (length call.sent.items) (room_inside k c.args.self.now c.self.view_is call.sent.items c.requires.room) in
    let made : MadeBy call (plain_ask k call) = record { pid = refl; parent = refl; table = refl; number = refl; args = refl; sent = refl } in
    let noted = c.finish.ensures.notes ∙ ap (λ (ns : List Note). noted_call call c.in_ok-value.value (map got_value c.new-got.result.items) ∷ ns) (c.or_unreserve.ensures.notes ∙ c.reserve.ensures.same) in
    let counted = counts call c.in_ok-value.value _ k.notes _ noted in (
      (
        regular_finished k call.pid c.self.invariant.0.0 lives c.in_ok-value.value k.mem c.change-changed.new.tree c.change-changed.new.files.open_files c.finish.new.procs c.finish.new.log.notes c.change-changed.new.console.items c.pass.new.self
            refl c.finish.ensures.procs (omega (arith, counted)),
        copies_changed k c.self.invariant.0.1 call c.in_ok-value.value c.change-changed.new.tree c.change-changed.new.files.open_files c.change-changed.new.console.items c.finish.new.log.notes few
            (rw (← c.in_ok-value.ensures.same) at (c.change-changed.ensures.changes (plain_ask k call) made (record { tree = refl; files = refl; console = refl }))) counted (call_strays call c.in_ok-value.value _ k.notes _ noted),
      ),
      search rules,
      c.self.invariant.2,
    )

pub returns-clause-changes : goal.returns-clause-changes
returns-clause-changes c = λ a.
    let k = kept_of c.self.inside in
    let call = c.args.call in
    let noted = c.finish.ensures.notes
    ∙ (λ i. noted_call call c.in_ok-value.value (map got_value (c.new-got.ensures.items i)) ∷ (c.or_unreserve.ensures.notes ∙ c.reserve.ensures.same) i) in
    subst (λ (old : Kept). (caller : Caller old call) → Changed a old caller.entry caller.held call (row (asked_by a caller)) (new_parts c)) c.self.view_is
    (λ caller. changed_by a k caller.entry caller.held call caller.runs caller.stands c.change-changed.new.tree c.change-changed.new.files.open_files c.change-changed.new.console.items c.in_ok-value.value c.finish.new.procs c.finish.new.log.notes c.pass.new.self
    (rw (← c.in_ok-value.ensures.same) at (c.change-changed.ensures.changes (asked_by a caller) (made_by a k caller.entry caller.held call caller.runs caller.stands) (is_rest a k caller.entry caller.held call caller.runs caller.stands c.self.inside.files refl)))
    c.finish.ensures.procs noted (c.pass.ensures ∙ ap (λ (t : Task). event_recorded k.recording t.space) (value_found k.procs call.pid caller.entry caller.runs.lives c.get.result.now c.get.ensures)) (maps_none_changed call c.requires.change))

pub returns-clause-holds : goal.returns-clause-holds
returns-clause-holds c = λ holds.
    let k = kept_of c.self.inside in
    let call = c.args.call in
    let value = c.in_ok-value.value in
    let few = room_counts k.notes (length call.sent.items) (room_inside k c.args.self.now c.self.view_is call.sent.items c.requires.room) in
    let made : MadeBy call (plain_ask k call) = record { pid = refl; parent = refl; table = refl; number = refl; args = refl; sent = refl } in
    let copies = copies_clean k c.self.invariant.0.1 (holds_inside k c.args.self.now c.self.view_is holds) in
    (copies_changed (cleaned k) copies call value c.change-changed.new.tree c.change-changed.new.files.open_files c.change-changed.new.console.items (noted_call call value [] ∷ clean k.notes) (omega (arith, few, calls_clean k.notes))
    (rw (← c.in_ok-value.ensures.same) at (c.change-changed.ensures.changes (plain_ask k call) made (record { tree = refl; files = refl; console = refl })))
    (counts call value [] (clean k.notes) _ refl) (call_strays call value [] (clean k.notes) _ refl)).hold (none_clean k.notes)
