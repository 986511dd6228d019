-- The digits of numbers, as the code writes them.
use Rattle.std.proofs.Common.{◌≡◌, ℕ, zero, suc, ◌+◌, ◌-◌, ◌^◌, ◌/◌, ◌%◌, ◌<◌, ◌≤◌, Bool, true, false, List, [], ◌∷◌, ◌++◌, length, replicate, slice_index, refl, sym, subst, ap, ◌∙◌, inl, inr, arith, w32}
use Rattle.std.specs.Prelude.{◌==◌, ◌&&◌, decimal}
use Rattle.std.specs.Fmt.{digit_glyph, digits_onto, digits}
use Rattle.std.specs.Int.{to_be_bytes}
use Rattle.std.proofs.lemmas.Bool.{cases_eq, eqb-true, eq-eqb, ne_eqb, cond-true, cond-false, and_parts, cases_lt}
use Rattle.std.proofs.lemmas.Fmt.{decimal_digit, decimal_step}
use Rattle.std.proofs.lemmas.List.{append_assoc}
use Rattle.hex.specs.Hex.{encode_lower, encode_with, lower_digits}
use Rattle.call_log.specs.Lines.{word_digits}

-- ---- decimal digits

pub one_digit : (n : ℕ) (old text : List ℕ) → n < 10 → text ≡ old ++ (48 + n % 10) ∷ [] → text ≡ old ++ decimal n
one_digit n old text below is =
    let same : n % 10 ≡ n = omega (arith, below) in
    is ∙ ap (λ (d : ℕ). old ++ (48 + d) ∷ []) same ∙ ap (λ (ds : List ℕ). old ++ ds) (sym (decimal_digit n below))

pub one_more : (n : ℕ) (old front text : List ℕ) → 10 ≤ n → n < 2 ^ 64 → front ≡ old ++ decimal (n / 10) → text ≡ front ++ (48 + n % 10) ∷ [] → text ≡ old ++ decimal n
one_more n old front text from fits before is =
    is ∙ ap (λ (ds : List ℕ). ds ++ (48 + n % 10) ∷ []) before ∙ append_assoc old (decimal (n / 10)) ((48 + n % 10) ∷ [])
    ∙ ap (λ (ds : List ℕ). old ++ ds) (sym (decimal_step n from fits))

-- ---- the eight digits of a word, two of each of its bytes

-- the last k digits of a number, in front of a text
abbrev last_digits : (k n : ℕ) → List ℕ → List ℕ
last_digits zero n acc = acc
last_digits (suc k) n acc = last_digits k (n / 16) (digit_glyph false (n % 16) ∷ acc)

-- a number of at most k digits
abbrev IsShort : (k n : ℕ) → Type 0
IsShort zero n = n ≡ 0
IsShort (suc k) n = IsShort k (n / 16)

zeros_in_front : (k : ℕ) (acc : List ℕ) → replicate k 48 ++ 48 ∷ acc ≡ 48 ∷ replicate k 48 ++ acc
zeros_in_front zero acc = refl
zeros_in_front (suc k) acc = ap (λ (text : List ℕ). 48 ∷ text) (zeros_in_front k acc)

zeros : (k : ℕ) (acc : List ℕ) → replicate k 48 ++ acc ≡ last_digits k 0 acc
zeros zero acc = refl
zeros (suc k) acc = sym (zeros_in_front k acc) ∙ zeros k (48 ∷ acc)

onto_last : (j n : ℕ) (acc : List ℕ) → n / 16 ≡ 0 → digits_onto (suc j) 16 false n acc ≡ digit_glyph false (n % 16) ∷ acc
onto_last j n acc last = cond-true (n / 16 == 0) _ _ (eq-eqb (n / 16) 0 last)

onto_more : (j n : ℕ) (acc : List ℕ) → (n / 16 ≡ 0 → ⊥) → digits_onto (suc j) 16 false n acc ≡ digits_onto j 16 false (n / 16) (digit_glyph false (n % 16) ∷ acc)
onto_more j n acc more = cond-false (n / 16 == 0) _ _ (ne_eqb (n / 16) 0 more)

-- the digits of a number of at most k, and how many zeros stand in front of them
filled : (k j n : ℕ) (acc : List ℕ) → k ≤ j → IsShort (suc k) n
    → (m : ℕ) × (m + length (digits_onto (suc j) 16 false n acc) ≡ suc k + length acc) × (replicate m 48 ++ digits_onto (suc j) 16 false n acc ≡ last_digits (suc k) n acc)
filled zero j n acc deep short =
    let is = onto_last j n acc short in
    (0, omega (arith, ap (λ (text : List ℕ). length text) is), is)
filled (suc k) zero n acc deep short = absurd (omega (arith, deep))
filled (suc k) (suc j) n acc deep short =
    let front = digit_glyph false (n % 16) ∷ acc in
    elim (cases_eq (n / 16) 0) [
      | inl last ↦
          let is = onto_last (suc j) n acc last in (
            suc k,
            omega (arith, ap (λ (text : List ℕ). length text) is),
            ap (λ (text : List ℕ). replicate (suc k) 48 ++ text) is ∙ zeros (suc k) front ∙ ap (λ (rest : ℕ). last_digits (suc k) rest front) (sym last),
          )
      | inr more ↦
          let is = onto_more (suc j) n acc more in
          let rest = filled k j (n / 16) front (omega (arith, deep)) short in
          (rest.0, omega (arith, rest.1, ap (λ (text : List ℕ). length text) is), ap (λ (text : List ℕ). replicate rest.0 48 ++ text) is ∙ rest.2)
    ]

from_filled : (m : ℕ) (ds text : List ℕ) → m + length ds ≡ 8 → replicate m 48 ++ ds ≡ text → replicate (8 - length ds) 48 ++ ds ≡ text
from_filled m ds text many is = let zeros_is : 8 - length ds ≡ m = omega (arith, many) in ap (λ (k : ℕ). replicate k 48 ++ ds) zeros_is ∙ is

eight : (n : ℕ) → n < 2 ^ 32 → word_digits n ≡ last_digits 8 n []
unfolding digits
eight n fits =
    let short : n / 16 / 16 / 16 / 16 / 16 / 16 / 16 / 16 ≡ 0 = omega (arith, fits) in
    let found = filled 7 63 n [] (omega arith) short in
    from_filled found.0 (digits 16 false n) (last_digits 8 n []) found.1 found.2

-- the digits of hex's table
abbrev are_glyphs : ℕ → Bool
are_glyphs zero = true
are_glyphs (suc d) = slice_index lower_digits d == digit_glyph false d && are_glyphs d

glyph_at : (n d : ℕ) → are_glyphs n ≡ true → d < n → slice_index lower_digits d ≡ digit_glyph false d
glyph_at zero d all below = absurd (omega (arith, below))
glyph_at (suc n) d all below = elim (cases_lt d n) [
  | inl under ↦ glyph_at n d (and_parts _ _ all).1 under
  | inr over ↦ let at : n ≡ d = omega (arith, below, over) in subst (λ (k : ℕ). slice_index lower_digits k ≡ digit_glyph false k) at (eqb-true _ _ (and_parts _ _ all).0)
]

pub glyph : (d : ℕ) → d < 16 → slice_index lower_digits d ≡ digit_glyph false d
glyph d below = glyph_at 16 d refl below

one_glyph : (d e : ℕ) {glyphs rest : List ℕ} → d < 16 → d ≡ e → glyphs ≡ rest → slice_index lower_digits d ∷ glyphs ≡ digit_glyph false e ∷ rest
one_glyph d e {glyphs} {rest} below same more =
    ap (λ (g : ℕ). g ∷ glyphs) (glyph d below ∙ ap (digit_glyph false) same) ∙ ap (λ (text : List ℕ). digit_glyph false e ∷ text) more

pub word_bytes : (n : ℕ) → n < 2 ^ 32 → encode_lower (to_be_bytes w32 n) ≡ word_digits n
unfolding encode_with
word_bytes n fits =
    one_glyph _ _ (omega arith) (omega (arith, fits)) (one_glyph _ _ (omega arith) (omega arith) (one_glyph _ _ (omega arith) (omega arith) (one_glyph _ _ (omega arith) (omega arith)
    (one_glyph _ _ (omega arith) (omega arith) (one_glyph _ _ (omega arith) (omega arith) (one_glyph _ _ (omega arith) (omega arith) (one_glyph _ _ (omega arith) (omega arith) refl)))))))
    ∙ sym (eight n fits)
