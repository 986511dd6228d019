-- The two digits of a byte.
use Rattle.std.proofs.Common.{◌≡◌, ℕ, ◌/◌, ◌%◌, ◌<◌, false, inl, inr, [], ◌∷◌, slice_index, sym, ap, ◌∙◌, arith}
use Rattle.std.specs.Fmt.{digit_glyph}
use Rattle.std.proofs.lemmas.Bool.{cases_lt}
use Rattle.std.proofs.lemmas.Fmt.{hex_one_digit, hex_two_digits}
use Rattle.hex.specs.Hex.{encode_lower, encode_with, lower_digits}
use Rattle.call_log.proofs.DigitLemmas.{glyph}
use Rattle.trace_text.specs.Lines.{byte_digits}

glyphs : (n : ℕ) → n < 256 → byte_digits n ≡ digit_glyph false (n / 16) ∷ digit_glyph false (n % 16) ∷ []
glyphs n fits = elim (cases_lt n 16) [
  | inl one ↦
      let high : n / 16 ≡ 0 = omega (arith, one) in
      let low : n % 16 ≡ n = omega (arith, one) in
      rw (hex_one_digit false n one, high, low)
  | inr two ↦ rw (hex_two_digits false n two fits)
]

pub byte_text : (n : ℕ) → n < 256 → encode_lower (n ∷ []) ≡ byte_digits n
unfolding encode_with
byte_text n fits =
    ap (λ (g : ℕ). g ∷ slice_index lower_digits (n % 16) ∷ []) (glyph (n / 16) (omega (arith, fits))) ∙ ap (λ (g : ℕ). digit_glyph false (n / 16) ∷ g ∷ []) (glyph (n % 16) (omega arith))
    ∙ sym (glyphs n fits)
