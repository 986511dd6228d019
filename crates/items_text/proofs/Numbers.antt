-- The value of digits, one after the other.
use Rattle.std.proofs.Common.{◌≡◌, ℕ, suc, ◌+◌, ◌*◌, ◌<◌, ◌≤◌, min, inl, inr, List, [], ◌∷◌, length, get_or, drop, sym, ap, ◌∙◌, arith, add-one, drop-cons}
use Rattle.std.specs.Char.{digit_value}
use Rattle.std.specs.Str.Parse.{digits_value_after}
use Rattle.std.proofs.Math.Nat.{le-mul_of_pos_right}
use Rattle.std.proofs.lemmas.Bool.{cases_lt}
use Rattle.std.proofs.lemmas.List.{get_or_default}

-- digits behind a number make it no smaller
grows : (radix n : ℕ) (ds : List ℕ) → 0 < radix → n ≤ digits_value_after radix n ds
grows radix n [] some = omega arith
grows radix n (d ∷ ds) some = omega (arith, le-mul_of_pos_right n some, grows radix (n * radix + digit_value d) ds some)

-- a number that was cut stays cut
cut : (radix most n : ℕ) (ds : List ℕ) → 0 < radix → min (digits_value_after radix (min n most) ds) most ≡ min (digits_value_after radix n ds) most
cut radix most n ds some = elim (cases_lt n most) [
  | inl below ↦ let same : min n most ≡ n = omega (arith, below) in ap (λ m. min (digits_value_after radix m ds) most) same
  | inr from ↦
      let same : min n most ≡ most = omega (arith, from) in
      let cut_up : min (digits_value_after radix most ds) most ≡ most = omega (arith, grows radix most ds some) in
      let up : min (digits_value_after radix n ds) most ≡ most = omega (arith, from, grows radix n ds some) in
      ap (λ m. min (digits_value_after radix m ds) most) same ∙ cut_up ∙ sym up
]

-- a rest of a list, opened at its head
opened : (xs : List ℕ) (i : ℕ) → i < length xs → drop i xs ≡ get_or xs i 0 ∷ drop (i + 1) xs
opened xs i below = drop-cons xs i (get_or xs i 0) below ∙ ap (λ y. y ∷ drop (suc i) xs) (get_or_default xs i (get_or xs i 0) 0 below) ∙ ap (λ n. get_or xs i 0 ∷ drop n xs) (sym (add-one i))

-- one digit more
pub digit_step : (radix most : ℕ) (text : List ℕ) (i value later whole : ℕ) → 0 < radix → i < length text → later ≡ min (value * radix + digit_value (get_or text i 0)) most
    → min (digits_value_after radix value (drop i text)) most ≡ whole → min (digits_value_after radix later (drop (i + 1) text)) most ≡ whole
digit_step radix most text i value later whole some below is so_far =
    ap (λ n. min (digits_value_after radix n (drop (i + 1) text)) most) is
    ∙ cut radix most (value * radix + digit_value (get_or text i 0)) (drop (i + 1) text) some
    ∙ ap (λ t. min (digits_value_after radix value t) most) (sym (opened text i below))
    ∙ so_far
