-- The lowest free number isn't above the count of those that are taken, and so not above the length.
use Rattle.std.proofs.Common.{◌≡◌, ℕ, ◌+◌, ◌≤◌, Bool, true, false, cond, List, [], ◌∷◌, length, Option, Some, None, refl, arith}
use Rattle.std.specs.Prelude.{not, nat_lt, is_some, count_by}
use Rattle.std.specs.List.{position_or_len}
use Rattle.std.proofs.lemmas.Bool.{ltb-false}
use Rattle.std.proofs.lemmas.List.Sums.{sum_by-cons, count_by-le-length}
use Rattle.fd_tables.specs.Files.{free_number, with_next}

module _ {A : Type 0} where
  -- the first free place, or the length
  abbrev place : List (Option A) → ℕ
  place xs = position_or_len (λ x. not (is_some x)) xs

  place_most : (xs : List (Option A)) → place xs ≤ count_by is_some xs
  place_most [] = omega arith
  place_most (None ∷ xs) = omega arith
  place_most (Some x ∷ xs) = omega (arith, sum_by-cons (λ (o : Option A). cond (is_some o) 1 0) (Some x) xs, place_most xs)

  free_by : (xs : List (Option A)) (b : Bool) → nat_lt (place xs) (length xs) ≡ b → free_number xs ≤ place xs
  free_by xs true is = rw is (omega arith)
  free_by xs false is = let past : length xs ≤ place xs = ltb-false (place xs) (length xs) is in rw is past

  pub free_most : (xs : List (Option A)) → free_number xs ≤ count_by is_some xs
  free_most xs = omega (arith, free_by xs _ refl, place_most xs)

  pub free_within : (xs : List (Option A)) → free_number xs ≤ length xs
  free_within xs = omega (arith, free_most xs, count_by-le-length is_some xs)

  -- what takes it makes the list one longer at most
  pub length-one_more : (x : A) (xs : List (Option A)) → length (with_next x xs) ≤ length xs + 1
  length-one_more x [] = omega arith
  length-one_more x (None ∷ xs) = omega arith
  length-one_more x (Some y ∷ xs) = omega (arith, length-one_more x xs)
