-- The number that a word spells, and the way in which it is read.
use Rattle.std.proofs.Common.{◌≡◌, ℕ, ◌≤◌, ◌<◌, ◌^◌, Bool, true, false, cond, List, length, get_or, Option, Some, None, Result, Ok, Err, refl, sym, ap, subst, ◌∙◌, arith}
use Rattle.std.specs.Prelude.{◌↔◌, IsTrue, decimal, nat_le, ◌&&◌}
use Rattle.std.specs.Bool.{Decides}
use Rattle.std.specs.Int.{IsInRange}
use Rattle.std.specs.Str.Parse.{AllDigits, digits_value, ParsesUnsigned}
use Rattle.std.proofs.lemmas.Bool.Decides.{Decides-and, nat_tests}
use Rattle.std.proofs.lemmas.Slice.Eq.{bytes_eq-Decides}
use Rattle.std.proofs.lemmas.Fmt.{decimal_is_IsNumeral, first_decimal, decimal-digits_value}
use Rattle.std.proofs.lemmas.Str.Parse.{IsNumeralModel, tells_digits, numerals_by_value, digit_at, parse_plain}
use Rattle.file_commands.specs.Arguments.{StartsWell, is_between, is_spelling, spelled_number, number_of}

le_decides : (a b : ℕ) → Decides (nat_le a b) (a ≤ b)
le_decides a b = grind (arith, nat_tests)

some_by : (b : Bool) (m n : ℕ) → cond b (Some m) None ≡ Some n → (b ≡ true) × (m ≡ n)
some_by true m n h = (refl, cc)
some_by false m n h = absurd cc

value_is : (text : List ℕ) (n : ℕ) → text ≡ decimal n → n < 2 ^ 64 → digits_value 10 text ≡ n
value_is text n is below = ap (digits_value 10) is ∙ (decimal_is_IsNumeral n below).1

none_by : (o : Option ℕ) → ((n : ℕ) → o ≡ Some n → ⊥) → o ≡ None
none_by None h = refl
none_by (Some n) h = absurd (h n refl)

own : IsNumeralModel (AllDigits 10) (digits_value 10)
own = numerals_by_value (AllDigits 10) tells_digits

-- of a range whose numbers fit a word
module _ (least most : ℕ) (short : most < 2 ^ 32) where
  abbrev Spells : List ℕ → ℕ → Type 0
  Spells text n = (text ≡ decimal n) × (least ≤ n) × (n ≤ most)

  pub between_decides : (n : ℕ) → Decides (is_between least most n) ((least ≤ n) × (n ≤ most))
  between_decides n = Decides-and (nat_le least n) (nat_le n most) (le_decides least n) (le_decides n most)

  spells : (text : List ℕ) (n : ℕ) → Decides (is_spelling text n && is_between least most n) (Spells text n)
  spells text n =
      let d = Decides-and (is_spelling text n) (is_between least most n) (bytes_eq-Decides text (decimal n)) (between_decides n) in
      (λ is. let p = d.0 is in (p.0, p.1.0, p.1.1), λ p. d.1 (p.0, (p.1, p.2)))

  -- a number in the range is far below the longest that is spelled whole
  small : (n : ℕ) → n ≤ most → n < 2 ^ 64
  small n h = omega arith

  pub is_spelled : (text : List ℕ) (n : ℕ) → number_of least most text ≡ Some n → Spells text n
  is_spelled text n h =
      let p = some_by (is_spelling text (digits_value 10 text) && is_between least most (digits_value 10 text)) (digits_value 10 text) n h in
      subst (Spells text) p.1 ((spells text (digits_value 10 text)).0 p.0)

  spelled_is : (text : List ℕ) (n : ℕ) → Spells text n → number_of least most text ≡ Some n
  spelled_is text n h =
      let value : digits_value 10 text ≡ n = value_is text n h.0 (small n h.2) in
      let test : (is_spelling text n && is_between least most n) ≡ true = (spells text n).1 h in
      ap (spelled_number least most text) value ∙ ap (λ (b : Bool). cond b (Some n) None) test

  pub number_is_spelled : (text : List ℕ) (n : ℕ) → (number_of least most text ≡ Some n) ↔ Spells text n
  number_is_spelled text n = (is_spelled text n, spelled_is text n)

  -- ---- reading

  module _ (some : 1 ≤ least) where
    spelled_starts : (text : List ℕ) (n : ℕ) → Spells text n → StartsWell text
    spelled_starts text n h =
        let below : n < 2 ^ 64 = small n h.2 in
        let numeral = (decimal_is_IsNumeral n below).0 in
        let first : 48 < get_or (decimal n) 0 0 = first_decimal n (omega (arith, h.1)) below in
        let digit : IsInRange 48 57 (get_or (decimal n) 0 0) = digit_at (decimal n) 0 numeral.1 numeral.0 in
        subst StartsWell (sym h.0) (omega (arith, first), digit.1)

    none_spelled : (text : List ℕ) → (StartsWell text → ⊥) → number_of least most text ≡ None
    none_spelled text h = none_by (number_of least most text) (λ n is. h (spelled_starts text n (is_spelled text n is)))

    -- by the answer of the test of the first byte
    pub none_started : (text : List ℕ) (b : Bool) → (IsTrue b ↔ StartsWell text) → b ≡ false → number_of least most text ≡ None
    none_started text b tells is = none_spelled text (λ starts. let h : b ≡ true = tells.1 starts in cc)

  module _ (E : Type 0) (text : List ℕ) (b : Bool) (tells : IsTrue b ↔ StartsWell text) (is : b ≡ true) where
    starts : StartsWell text
    starts = tells.0 is

    number_is : (n : ℕ) → ParsesUnsigned {E = E} 32 10 text (Ok n) → text ≡ decimal n
    number_is n h =
        let p = parse_plain own {E = E} 32 text (Ok n) h (omega (arith, starts.0)) in
        let whole = decimal-digits_value own text p.0.0 p.0.1 (λ zero. absurd (omega (arith, starts.0, zero))) (omega (arith, p.0.2)) in
        sym whole ∙ ap decimal (sym p.1)

    pub reads_number : (n : ℕ) (r : Result ℕ E) → ParsesUnsigned {E = E} 32 10 text r → r ≡ Ok n → is_between least most n ≡ true → number_of least most text ≡ Some n
    reads_number n r h is_ok fits =
        let range = (between_decides n).0 fits in
        spelled_is text n (number_is n (subst (ParsesUnsigned {E = E} 32 10 text) is_ok h), range.0, range.1)

    pub reads_none : (e : E) → ParsesUnsigned {E = E} 32 10 text (Err e) → number_of least most text ≡ None
    reads_none e h =
        let p = parse_plain own {E = E} 32 text (Err e) h (omega (arith, starts.0)) in
        none_by (number_of least most text) (λ n is.
        let s = is_spelled text n is in
        let numeral = (decimal_is_IsNumeral n (small n s.2)).0 in
        p (subst (AllDigits 10) (sym s.0) numeral.1, subst (λ (t : List ℕ). 0 < length t) (sym s.0) numeral.0, omega (arith, value_is text n s.0 (small n s.2), s.2, short)))
