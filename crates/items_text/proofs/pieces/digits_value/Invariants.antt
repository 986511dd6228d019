-- The rest of the digits gives the whole number.
use Rattle.std.proofs.Common.{◌≡◌, ◌≤◌, min, drop}
use Rattle.std.specs.Str.Parse.{digits_value, digits_value_after}
use Rattle.items_text.specs.Pieces.{most_count}
use Rattle.items_text.proofs.pieces.digits_value.Given as goal

abbrev pub invariant-loop-byte : goal.invariant-loop-byte
invariant-loop-byte l = record {
  fits : l.value ≤ most_count;
  same : min (digits_value_after l.radix l.value (drop l.byte-index l.text)) most_count ≡ min (digits_value l.radix l.text) most_count;
}
