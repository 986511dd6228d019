-- An exit, or a log without room.
use Rattle.std.proofs.Common.{sym, subst, ◌∙◌}
use Rattle.machine_world.specs.Event.{exited}
use Rattle.kept_parts.specs.declared.served.Served.TheVariants.{Ended}
use Rattle.kept_parts.specs.Kept.{Kept}
use Rattle.kept_parts.specs.Stands.{world_of}
use Rattle.kept_parts.specs.Serves.{Answered}
use Rattle.kept_parts.specs.Calls.{asked_by}
use Rattle.kept_parts.proofs.Replies.Outcomes.{exit_serves, exit_full}
use Rattle.syscall_layer.proofs.answer.answer_exit.Goals as goal

pub returns-then-not-has_room-clause-serves : goal.returns-then-not-has_room-clause-serves
returns-then-not-has_room-clause-serves c = λ a caller.
    let k = c.args.parts.now in
    let call = c.args.call in
    exit_full a k caller.entry caller.held call caller.runs caller.stands (sym c.has_room.ensures.room ∙ c.if-not-has_room.true)

pub returns-clause-serves : goal.returns-clause-serves
returns-clause-serves c = λ a caller.
    let k = c.args.parts.now in
    let call = c.args.call in
    let room = sym c.has_room.ensures.room ∙ c.if-not-has_room.false in
    subst (λ (new : Kept). Answered a (exited (world_of a k) (asked_by a caller)) k new call.pid Ended) (sym (c.in_ok-exit.ensures.exits caller.entry caller.held caller.runs)) (exit_serves a k caller.entry caller.held call caller.runs caller.stands room)
