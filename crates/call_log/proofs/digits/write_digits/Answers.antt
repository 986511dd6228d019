-- Two digits more behind those of the bytes before.
use Rattle.std.proofs.Common.{ℕ, ◌/◌, ◌%◌, ◌<◌, slice_index, sym, ◌∙◌, arith}
use Rattle.hex.specs.Hex.{lower_digits}
use Rattle.hex.proofs.Pairs.{encode_step, encode_done}
use Rattle.call_log.proofs.DigitLemmas.{glyph}
use Rattle.call_log.proofs.digits.write_digits.Goals as goal

pub loop-place-preserved : goal.loop-place-preserved
loop-place-preserved c =
    let at = c.loop-place.place in
    let byte : ℕ = slice_index c.args.bytes.now at in
    let fits : byte < 256 = (c.type_inv.bytes at).fits in
    encode_step lower_digits c.args.bytes.now c.loop-place.digits at c.digit.result c.digit-in-loop-place.result c.loop-place-test.true (omega arith)
    (c.digit.ensures ∙ sym (glyph (byte / 16) (omega (arith, fits)))) (c.digit-in-loop-place.ensures ∙ sym (glyph (byte % 16) (omega arith))) c.loop-place.invariant

pub returns : goal.returns
returns c = encode_done lower_digits c.args.bytes.now c.loop-place.digits c.loop-place.place (omega arith) (omega arith) c.loop-place.invariant
