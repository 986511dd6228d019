-- The lowest number that is free, by a search along the list, and what is left of the input.
use Rattle.std.proofs.Common.{◌≡◌, ℕ, zero, suc, ◌+◌, ◌<◌, ◌≤◌, true, false, List, [], ◌∷◌, ◌++◌, length, get_or, drop, Option, Some, None, refl, sym, ap, arith}
use Rattle.std.specs.Prelude.{not, is_some, nat_lt, slice_set, if◌then◌else◌}
use Rattle.std.specs.List.{position_or_len}
use Rattle.std.proofs.lemmas.Bool.Decides.{nat_tests}
use Rattle.std.proofs.lemmas.List.{drop-drop}
use Rattle.std.proofs.lemmas.List.Quantifiers.{position-Some}
use Rattle.fd_tables.specs.Files.{first_free, with_next}

-- bytes are taken behind those that were taken before
pub drop_more : (m n : ℕ) (xs : List ℕ) → drop (n + m) xs ≡ drop m (drop n xs)
drop_more m n xs = sym (drop-drop m n xs)

none_past : (i n : ℕ) → (if nat_lt i n then Some i else None) ≡ None → n ≤ i
none_past i n h = grind (arith, nat_tests)

module _ {A : Type 0} where
  at_first : (x : A) (xs : List (Option A)) (i : ℕ) → i < length xs → not (is_some (get_or xs i None)) ≡ true → ((k : ℕ) → k < i → not (is_some (get_or xs k None)) ≡ false) → with_next x xs ≡ slice_set xs i (Some x)
  at_first x [] i inside free before = absurd (omega arith)
  at_first x (None ∷ xs) zero inside free before = refl
  at_first x (None ∷ xs) (suc i) inside free before = let h = before 0 (omega arith) in cc
  at_first x (Some y ∷ xs) zero inside free before = cc
  at_first x (Some y ∷ xs) (suc i) inside free before = ap (λ ys. Some y ∷ ys) (at_first x xs i (omega arith) free (λ k h. before (suc k) (omega arith)))

  pub next_inside : (x : A) (xs : List (Option A)) (i : ℕ) → first_free xs ≡ Some i → with_next x xs ≡ slice_set xs i (Some x)
  next_inside x xs i found = let h = position-Some (λ (y : Option A). not (is_some y)) xs i None found in at_first x xs i h.0 h.1 h.2

  behind : (x : A) (xs : List (Option A)) → length xs ≤ position_or_len (λ (y : Option A). not (is_some y)) xs → with_next x xs ≡ xs ++ Some x ∷ []
  behind x [] past = refl
  behind x (None ∷ xs) past = absurd (omega arith)
  behind x (Some y ∷ xs) past = ap (λ ys. Some y ∷ ys) (behind x xs (omega arith))

  pub next_behind : (x : A) (xs : List (Option A)) → first_free xs ≡ None → with_next x xs ≡ xs ++ Some x ∷ []
  next_behind x xs none = behind x xs (none_past _ _ none)
