-- Eight digits fit a word.
use Rattle.std.proofs.Common.{◌<◌, arith}
use Rattle.manifest_text.proofs.Spelling.{hex_step, hex_fits, hex_room}
use Rattle.manifest_text.proofs.numbers.hex_value.Goals as goal

pub overflow_mul-value : goal.overflow_mul-value
overflow_mul-value c = omega (arith, hex_room c.loop-digit.digit-index c.loop-digit.value (omega (arith, c.loop-digit-test.true, c.requires)) c.loop-digit.invariant.fits)

pub overflow_add-value : goal.overflow_add-value
overflow_add-value c =
    let small : c.in_ok-value.field-0 < 16 = c.in_ok-value.ensures.small in
    omega (arith, small, hex_room c.loop-digit.digit-index c.loop-digit.value (omega (arith, c.loop-digit-test.true, c.requires)) c.loop-digit.invariant.fits)

pub loop-digit-preserved : goal.loop-digit-preserved
loop-digit-preserved c = record {
  fits = hex_fits c.loop-digit.digit-index c.loop-digit.value c.in_ok-value.field-0 c.loop-digit.invariant.fits c.in_ok-value.ensures.small;
  same = hex_step c.args.digits.now c.loop-digit.digit-index c.loop-digit.value c.in_ok-value.field-0 _ c.loop-digit-test.true c.in_ok-value.ensures.value c.loop-digit.invariant.same;
}
