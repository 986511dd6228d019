-- What is unmapped, or a log without room.
use Rattle.std.proofs.Common.{sym, subst, ap, ◌∙◌}
use Rattle.std.specs.Prelude.{◌==◌, slice_index}
use Rattle.std.proofs.lemmas.Result.{err_from_is_err_and}
use Rattle.mmap_rules.specs.Mappings.{hit}
use Rattle.machine_world.specs.Asks.{Row}
use Rattle.machine_world.specs.Event.{answered}
use Rattle.kept_parts.specs.declared.served.Served.TheVariants.{Replied}
use Rattle.kept_parts.specs.Stands.{world_of}
use Rattle.kept_parts.specs.Serves.{Answered}
use Rattle.kept_parts.specs.Calls.{asked_by}
use Rattle.kept_parts.proofs.Replies.QuietRows.{Quiet}
use Rattle.syscall_layer.proofs.MapRows.{row_munmap, quiet_unmaps}
use Rattle.kept_parts.proofs.Replies.Outcomes.{made_by, change_serves, room_for_row, quiet_full}
use Rattle.syscall_layer.proofs.answer.answer_unmap.Goals as goal

pub returns-then-not-has_room-clause-serves : goal.returns-then-not-has_room-clause-serves
returns-then-not-has_room-clause-serves c = λ a caller.
    let k = c.args.parts.now in
    let call = c.args.call in
    let rows = row_munmap call (asked_by a caller) (made_by a k caller.entry caller.held call caller.runs caller.stands) c.requires.munmap in
    quiet_full a k caller.entry caller.held call caller.runs caller.stands _
    (subst Quiet (sym rows) (quiet_unmaps (asked_by a caller) (hit caller.held.maps (slice_index call.args 0) (slice_index call.args 1))))
    (sym c.has_room.ensures.room ∙ c.if-not-has_room.true)

pub returns-in_err-unmap-clause-serves : goal.returns-in_err-unmap-clause-serves
returns-in_err-unmap-clause-serves c = λ a caller.
    let p = err_from_is_err_and c.from_residual.result c.from_residual.ensures.1 in
    rw p.1 (c.in_err-unmap.ensures.changes a caller)

pub returns-clause-serves : goal.returns-clause-serves
returns-clause-serves c = λ a caller.
    let k = c.args.parts.now in
    let call = c.args.call in
    let room = sym c.has_room.ensures.room ∙ c.if-not-has_room.false in
    let rows = row_munmap call (asked_by a caller) (made_by a k caller.entry caller.held call caller.runs caller.stands) c.requires.munmap in
    subst (λ (r : Row). Answered a (answered (world_of a k) (asked_by a caller) r) k c.unmap.new.self call.pid Replied) (sym rows)
    (change_serves a k caller.entry caller.held call caller.runs caller.stands _ c.unmap.new.self (c.in_ok-unmap.ensures.changes a caller)
    (room_for_row a k caller.entry caller.held call caller.runs caller.stands _ (quiet_unmaps (asked_by a caller) (hit caller.held.maps (slice_index call.args 0) (slice_index call.args 1))) (ap (λ n. n == 222) c.requires.munmap) room))
