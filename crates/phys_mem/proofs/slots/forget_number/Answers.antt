-- A number touches one word, or two.
use Rattle.std.proofs.Common.{arith}
use Rattle.phys_mem.proofs.AfterWrites.{one_word, two_words}
use Rattle.phys_mem.proofs.slots.forget_number.Goals as goal

pub returns-then-at-len-gt4 : goal.returns-then-at-len-gt4
returns-then-at-len-gt4 c = two_words c.args.at c.args.len _ _ _ c.requires.few (omega (arith, c.if-at-len-gt4.true)) c.forget_word.ensures c.forget_word-then-at-len-gt4.ensures

pub returns-else-at-len-gt4 : goal.returns-else-at-len-gt4
returns-else-at-len-gt4 c = one_word c.args.at c.args.len _ _ c.requires.some (omega (arith, c.if-at-len-gt4.false)) c.forget_word.ensures
