-- The first zero.
use Rattle.std.proofs.Common.{◌<◌, length, ◌∙◌, arith}
use Rattle.call_bytes.proofs.StringLists.{no_zero, first_zero}
use Rattle.call_bytes.proofs.strings.at_zero.Goals as goal

pub returns-then-byte-eq0 : goal.returns-then-byte-eq0
returns-then-byte-eq0 c =
    let zero = first_zero c.args.bytes.now c.loop-i.i c.loop-i-test.true c.loop-i.invariant c.if-byte-eq0.true in
    (zero.0, c.split_at.ensures.front ∙ zero.1, c.split_at-then-byte-eq0.ensures.back ∙ zero.2)

pub returns : goal.returns
returns c = no_zero c.args.bytes.now (λ k (less : k < length c.args.bytes.now). c.loop-i.invariant k (omega (arith, less, c.loop-i-test.false)))
