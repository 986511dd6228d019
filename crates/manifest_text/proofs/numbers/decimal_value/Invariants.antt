-- The rest of the digits gives the whole number.
use Rattle.std.proofs.Common.{◌≡◌, ◌-◌, ◌^◌, ◌≤◌, min, drop}
use Rattle.manifest_text.specs.Numbers.{spelled}
use Rattle.manifest_text.proofs.numbers.decimal_value.Given as goal

abbrev pub invariant-loop-byte : goal.invariant-loop-byte
invariant-loop-byte l = record {
  fits : l.value ≤ 2 ^ 64 - 1;
  same : min (spelled (λ b. b - 48) 10 l.value (drop l.byte-index l.text)) (2 ^ 64 - 1) ≡ min (spelled (λ b. b - 48) 10 0 l.text) (2 ^ 64 - 1);
}
