-- One digit more.
use Rattle.std.proofs.Common.{arith}
use Rattle.manifest_text.proofs.Spelling.{decimal_step}
use Rattle.manifest_text.proofs.numbers.decimal_value.Goals as goal

pub loop-byte-preserved : goal.loop-byte-preserved
loop-byte-preserved c =
    let m = c.saturating_mul.ensures in let s = c.saturating_sub.ensures in let f = c.from.ensures in let a = c.saturating_add-value.ensures in
    record {
      fits = omega (arith, a);
      same = decimal_step c.args.text.now c.loop-byte.byte-index c.loop-byte.value c.saturating_add-value.result _ c.loop-byte-test.true (omega (arith, m, s, f, a)) c.loop-byte.invariant.same;
    }
