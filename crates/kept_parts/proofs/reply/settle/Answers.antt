-- The break stays where it isn't asked to move.
use Rattle.kept_parts.proofs.Replies.Replied.{stays_with}
use Rattle.kept_parts.proofs.reply.settle.Goals as goal

pub returns-in-Answer : goal.returns-in-Answer
returns-in-Answer c = λ h there. rw c.in-Answer.is (stays_with c.args.spaces.now c.args.number h there c.in-Answer.value)

pub returns-in-Yield : goal.returns-in-Yield
returns-in-Yield c = λ h there. rw c.in-Yield.is (stays_with c.args.spaces.now c.args.number h there 0)
