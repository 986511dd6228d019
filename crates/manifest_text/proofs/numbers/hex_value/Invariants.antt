-- The rest of the digits gives the whole number.
use Rattle.std.proofs.Common.{◌≡◌, ◌*◌, ◌^◌, ◌<◌, drop}
use Rattle.manifest_text.proofs.Spelling.{hex_from}
use Rattle.manifest_text.proofs.numbers.hex_value.Given as goal

abbrev pub invariant-loop-digit : goal.invariant-loop-digit
invariant-loop-digit l = record {
  fits : l.value < 2 ^ (4 * l.digit-index);
  same : hex_from l.value (drop l.digit-index l.digits) ≡ hex_from 0 l.digits;
}
