-- A refusal maps no file.
use Rattle.std.proofs.Common.{ℕ, subst}
use Rattle.machine_world.specs.Asks.{answers}
use Rattle.machine_world.specs.Event.{answered}
use Rattle.kept_parts.specs.Stands.{world_of}
use Rattle.kept_parts.specs.Serves.{Serves}
use Rattle.kept_parts.specs.Calls.{asked_by}
use Rattle.kept_parts.proofs.Common.Recorded.{refusal_plain}
use Rattle.syscall_layer.proofs.answer.refuse.Goals as goal

pub answer_effect-requires-clause-plain : goal.answer_effect-requires-clause-plain
answer_effect-requires-clause-plain c = refusal_plain c.args.call c.args.errno c.refusal.result c.refusal.ensures

pub returns-clause-serves : goal.returns-clause-serves
returns-clause-serves c = λ a caller.
    let k = c.args.parts.now in
    subst (λ (value : ℕ). Serves a (answered (world_of a k) (asked_by a caller) (answers (asked_by a caller) value)) k c.answer_effect.new.parts c.args.call.pid c.answer_effect.result)
    c.refusal.ensures (c.answer_effect.ensures.serves a caller)
