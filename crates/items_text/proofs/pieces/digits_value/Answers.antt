-- One digit more.
use Rattle.std.proofs.Common.{arith}
use Rattle.items_text.specs.Pieces.{most_count}
use Rattle.items_text.proofs.Numbers.{digit_step}
use Rattle.items_text.proofs.pieces.digits_value.Goals as goal

pub loop-byte-preserved : goal.loop-byte-preserved
loop-byte-preserved c =
    let m = c.saturating_mul.ensures in let d = c.digit_value.ensures in let a = c.saturating_add-value.ensures in
    record {
      fits = omega (arith, a);
      same = digit_step c.args.radix most_count c.args.text.now c.loop-byte.byte-index c.loop-byte.value c.saturating_add-value.result _ (omega (arith, c.requires)) c.loop-byte-test.true (omega (arith, m, d, a)) c.loop-byte.invariant.same;
    }
