-- Each string has bytes that the loop sees.
use Rattle.std.proofs.Common.{arith, subst}
use Rattle.items_text.specs.Items.{AreBytes}
use Rattle.suite_top.proofs.Each.{of_none, of_one_more, of_all}
use Rattle.suite_top.proofs.held.strings_are_bytes.Goals as goal

pub loop-string-init : goal.loop-string-init
loop-string-init c = of_none (λ string. string.items) AreBytes c.args.strings.now

pub loop-string-preserved : goal.loop-string-preserved
loop-string-preserved c =
    of_one_more (λ string. string.items) AreBytes c.args.strings.now c.loop-string.string-index c.string-item.result c.loop-string-test.true c.string-item.is
    (subst AreBytes c.deref.ensures.value c.are_bytes.ensures) c.loop-string.invariant

pub returns : goal.returns
returns c = of_all (λ string. string.items) AreBytes c.args.strings.now c.loop-string.string-index (omega (arith, c.loop-string-test.false)) c.loop-string.invariant
