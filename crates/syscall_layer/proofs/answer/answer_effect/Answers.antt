-- A reply, or a log without room.
use Rattle.std.proofs.Common.{sym, subst, ◌∙◌}
use Rattle.std.proofs.lemmas.Result.{err_from_is_err_and}
use Rattle.machine_world.specs.Asks.{replies}
use Rattle.machine_world.specs.Event.{answered}
use Rattle.kept_parts.specs.declared.served.Served.{Served}
use Rattle.kept_parts.specs.Kept.{Kept}
use Rattle.kept_parts.specs.Stands.{world_of}
use Rattle.kept_parts.specs.Serves.{Answered, Tells}
use Rattle.kept_parts.specs.Calls.{asked_by, reply_of, served_by}
use Rattle.kept_parts.proofs.Replies.Outcomes.{effect_serves, effect_full}
use Rattle.kept_parts.proofs.Common.RunningProcess.{runs_in}
use Rattle.syscall_layer.proofs.Leaves.{effect_leaves}
use Rattle.syscall_layer.proofs.answer.answer_effect.Goals as goal

pub returns-then-not-has_room-clause-serves : goal.returns-then-not-has_room-clause-serves
returns-then-not-has_room-clause-serves c = λ a caller.
    let k = c.args.parts.now in
    let call = c.args.call in
    effect_full a k caller.entry caller.held call caller.runs caller.stands c.args.effect (sym c.has_room.ensures.room ∙ c.if-not-has_room.true)

pub returns-in_err-reply-clause-serves : goal.returns-in_err-reply-clause-serves
returns-in_err-reply-clause-serves c = λ a caller.
    let p = err_from_is_err_and c.from_residual.result c.from_residual.ensures.1 in
    rw p.1 (c.in_err-reply.ensures.replies a caller.entry caller.held caller.runs)

pub returns-clause-serves : goal.returns-clause-serves
returns-clause-serves c = λ a caller.
    let k = c.args.parts.now in
    let call = c.args.call in
    let f = c.args.effect in
    let room = sym c.has_room.ensures.room ∙ c.if-not-has_room.false in
    let done = effect_serves a k caller.entry caller.held call caller.runs caller.stands f room c.requires.plain in
    let outcome = answered (world_of a k) (asked_by a caller) (replies (reply_of (asked_by a caller) f)) in
    subst (λ (served : Served). Answered a outcome k c.reply.new.self call.pid served) (sym c.served_by.ensures)
    (subst (λ (new : Kept). Answered a outcome k new call.pid (served_by f)) (sym (c.in_ok-reply.ensures.replies a caller.entry caller.held caller.runs)) done)

pub returns-clause-leaves : goal.returns-clause-leaves
returns-clause-leaves c = λ ready.
    let k = c.args.parts.now in
    let call = c.args.call in
    let r = runs_in k call.pid c.has_room.ensures.regular c.requires.lives in
    subst (λ (served : Served). Tells k c.reply.new.self call.pid served) (sym c.served_by.ensures)
    (effect_leaves k r.0 r.1.0 call r.1.1.lives ready c.args.effect c.reply.new.self (λ a. c.in_ok-reply.ensures.replies a r.0 r.1.0 r.1.1))
