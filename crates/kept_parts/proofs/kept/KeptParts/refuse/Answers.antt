-- The call has its errno for a reply.
use Rattle.std.proofs.Common.{ℕ, sym, subst}
use Rattle.std.proofs.lemmas.Result.{err_from_is_err_and}
use Rattle.machine_world.specs.Asks.{answers}
use Rattle.machine_world.specs.Event.{answered}
use Rattle.kept_parts.specs.declared.effect.Effect.TheVariants.{Answer}
use Rattle.kept_parts.specs.declared.served.Served.TheVariants.{Replied}
use Rattle.kept_parts.specs.Kept.{Kept}
use Rattle.kept_parts.specs.Stands.{world_of}
use Rattle.kept_parts.specs.Serves.{Answered}
use Rattle.kept_parts.specs.Calls.{asked_by}
use Rattle.kept_parts.proofs.Common.Recorded.{refusal_plain}
use Rattle.kept_parts.proofs.Replies.Outcomes.{effect_serves}
use Rattle.kept_parts.proofs.kept.KeptParts.refuse.Goals as goal

pub returns-in_err-reply-clause-serves : goal.returns-in_err-reply-clause-serves
returns-in_err-reply-clause-serves c = λ a caller.
    let p = err_from_is_err_and c.from_residual.result c.from_residual.ensures.1 in
    rw p.1 (c.in_err-reply.ensures.replies a caller.entry caller.held caller.runs)

pub reply-requires-clause-plain : goal.reply-requires-clause-plain
reply-requires-clause-plain c = refusal_plain c.args.call c.args.errno c.refusal.result c.refusal.ensures

pub returns-clause-serves : goal.returns-clause-serves
returns-clause-serves c = λ a caller.
    let k = c.args.self.now in
    let call = c.args.call in
    let errno = c.args.errno in
    let outcome = λ (value : ℕ). answered (world_of a k) (asked_by a caller) (answers (asked_by a caller) value) in
    let done = effect_serves a k caller.entry caller.held call caller.runs caller.stands (Answer c.refusal.result) c.requires.room (refusal_plain call errno c.refusal.result c.refusal.ensures) in
    subst (λ (value : ℕ). Answered a (outcome value) k c.reply.new.self call.pid Replied) c.refusal.ensures
    (subst (λ (new : Kept). Answered a (outcome c.refusal.result) k new call.pid Replied) (sym (c.in_ok-reply.ensures.replies a caller.entry caller.held caller.runs)) done)
