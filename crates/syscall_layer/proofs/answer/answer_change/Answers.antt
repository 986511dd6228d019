-- A change, or a log without room.
use Rattle.std.proofs.Common.{refl, sym, ap, ◌∙◌}
use Rattle.std.proofs.lemmas.Result.{err_from_is_err_and}
use Rattle.file_calls.specs.Calls.{is_change}
use Rattle.kept_parts.specs.Calls.{asked_by}
use Rattle.kept_parts.proofs.Replies.QuietRows.{quiet_row}
use Rattle.kept_parts.proofs.Replies.Outcomes.{made_by, files_in, maps_none_changed, change_serves, room_for_row, quiet_full}
use Rattle.syscall_layer.proofs.answer.answer_change.Goals as goal

pub returns-then-not-has_room-clause-serves : goal.returns-then-not-has_room-clause-serves
returns-then-not-has_room-clause-serves c = λ a caller.
    let k = c.args.parts.now in
    let call = c.args.call in
    quiet_full a k caller.entry caller.held call caller.runs caller.stands _ (quiet_row (asked_by a caller) (ap is_change (sym caller.stands.number) ∙ c.requires.change)
    (c.requires.replies (asked_by a caller) (made_by a k caller.entry caller.held call caller.runs caller.stands) (files_in a k caller.entry caller.held call refl)))
    (sym c.has_room.ensures.room ∙ c.if-not-has_room.true)

pub returns-in_err-change-clause-serves : goal.returns-in_err-change-clause-serves
returns-in_err-change-clause-serves c = λ a caller.
    let p = err_from_is_err_and c.from_residual.result c.from_residual.ensures.1 in
    rw p.1 (c.in_err-change.ensures.changes a caller)

pub returns-clause-serves : goal.returns-clause-serves
returns-clause-serves c = λ a caller.
    let k = c.args.parts.now in
    let call = c.args.call in
    let room = sym c.has_room.ensures.room ∙ c.if-not-has_room.false in
    let quiet = quiet_row (asked_by a caller) (ap is_change (sym caller.stands.number) ∙ c.requires.change)
    (c.requires.replies (asked_by a caller) (made_by a k caller.entry caller.held call caller.runs caller.stands) (files_in a k caller.entry caller.held call refl)) in
    change_serves a k caller.entry caller.held call caller.runs caller.stands _ c.change.new.self (c.in_ok-change.ensures.changes a caller) (room_for_row a k caller.entry caller.held call caller.runs caller.stands _ quiet (maps_none_changed call c.requires.change) room)
