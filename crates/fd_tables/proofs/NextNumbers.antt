-- What stands at a number when something takes the lowest one that is free.
use Rattle.std.proofs.Common.{◌≡◌, ◌≢◌, ℕ, zero, suc, ◌+◌, ◌<◌, ◌≤◌, Bool, true, false, cond, List, [], ◌∷◌, ◌++◌, length, get_or, Option, Some, None, refl, ap, ◌∙◌, arith, length-append}
use Rattle.std.specs.Prelude.{not, nat_lt, is_some, count_by, slice_set}
use Rattle.std.specs.List.{position_or_len}
use Rattle.std.proofs.lemmas.Bool.{ltb-false}
use Rattle.std.proofs.lemmas.List.Sums.{sum_by-cons}
use Rattle.std.proofs.lemmas.List.{length-set}
use Rattle.std.proofs.lemmas.List.Quantifiers.{position-Some}
use Rattle.fd_tables.specs.Files.{at_number, first_free, free_number, with_next}
use Rattle.fd_tables.proofs.Numbers.{next_inside, next_behind}

module _ {A : Type 0} where
  set_there : (x : A) (xs : List (Option A)) (i : ℕ) → i < length xs → at_number (slice_set xs i (Some x)) i ≡ Some x
  set_there x [] i inside = absurd (omega arith)
  set_there x (y ∷ xs) zero inside = refl
  set_there x (y ∷ xs) (suc i) inside = set_there x xs i (omega arith)

  last_there : (x : A) (xs : List (Option A)) → at_number (xs ++ Some x ∷ []) (length xs) ≡ Some x
  last_there x [] = refl
  last_there x (y ∷ xs) = last_there x xs

  by_free : (x : A) (xs : List (Option A)) (o : Option ℕ) → first_free xs ≡ o → at_number (with_next x xs) (free_number xs) ≡ Some x
  by_free x xs (Some i) e = let h = position-Some (λ (y : Option A). not (is_some y)) xs i None e in rw (e, next_inside x xs i e) (set_there x xs i h.0)
  by_free x xs None e = rw (e, next_behind x xs e) (last_there x xs)

  -- the next item stands at the lowest number that is free, and what is there stays
  pub next_there : (x : A) (xs : List (Option A)) → at_number (with_next x xs) (free_number xs) ≡ Some x
  next_there x xs = by_free x xs _ refl

  pub next_keeps : (x y : A) (xs : List (Option A)) (k : ℕ) → at_number xs k ≡ Some y → at_number (with_next x xs) k ≡ Some y
  next_keeps x y [] k there = cc
  next_keeps x y (None ∷ xs) zero there = cc
  next_keeps x y (None ∷ xs) (suc k) there = there
  next_keeps x y (Some z ∷ xs) zero there = there
  next_keeps x y (Some z ∷ xs) (suc k) there = next_keeps x y xs k there

  pub set_other : (x : Option A) (xs : List (Option A)) (i k : ℕ) → k ≢ i → at_number (slice_set xs i x) k ≡ at_number xs k
  set_other x [] i k other = refl
  set_other x (y ∷ xs) zero zero other = absurd (other refl)
  set_other x (y ∷ xs) zero (suc k) other = refl
  set_other x (y ∷ xs) (suc i) zero other = refl
  set_other x (y ∷ xs) (suc i) (suc k) other = set_other x xs i k (λ e. other (ap suc e))

  behind_other : (x : Option A) (xs : List (Option A)) (k : ℕ) → k ≢ length xs → at_number (xs ++ x ∷ []) k ≡ at_number xs k
  behind_other x [] zero other = absurd (other refl)
  behind_other x [] (suc k) other = refl
  behind_other x (y ∷ xs) zero other = refl
  behind_other x (y ∷ xs) (suc k) other = behind_other x xs k (λ e. other (omega arith))

  other_by_free : (x : A) (xs : List (Option A)) (k : ℕ) (o : Option ℕ) → first_free xs ≡ o → k ≢ free_number xs → at_number (with_next x xs) k ≡ at_number xs k
  other_by_free x xs k (Some i) e other = let ne = rw e at other in rw (next_inside x xs i e) (set_other (Some x) xs i k ne)
  other_by_free x xs k None e other = let ne = rw e at other in rw (next_behind x xs e) (behind_other (Some x) xs k ne)

  -- at all other numbers it stays as it is
  pub next_other : (x : A) (xs : List (Option A)) (k : ℕ) → k ≢ free_number xs → at_number (with_next x xs) k ≡ at_number xs k
  next_other x xs k other = other_by_free x xs k _ refl other

  at_get : (xs : List (Option A)) (i : ℕ) → at_number xs i ≡ get_or xs i None
  at_get [] i = refl
  at_get (y ∷ xs) zero = refl
  at_get (y ∷ xs) (suc i) = at_get xs i

  past_end : (xs : List (Option A)) → at_number xs (length xs) ≡ None
  past_end [] = refl
  past_end (y ∷ xs) = past_end xs

  none_by : (o : Option A) → not (is_some o) ≡ true → o ≡ None
  none_by None e = refl
  none_by (Some x) e = let no : ⊥ = cc in absurd no

  -- the first free place is there, and free
  pub first_there : (xs : List (Option A)) (i : ℕ) → first_free xs ≡ Some i → (i < length xs) × (at_number xs i ≡ None)
  first_there xs i e = let h = position-Some (λ (y : Option A). not (is_some y)) xs i None e in (h.0, at_get xs i ∙ none_by (get_or xs i None) h.1)

  nothing_by : (xs : List (Option A)) (o : Option ℕ) → first_free xs ≡ o → at_number xs (free_number xs) ≡ None
  nothing_by xs (Some i) e = let h = first_there xs i e in rw e h.1
  nothing_by xs None e = rw e (past_end xs)

  -- nothing stands at a number that is free
  pub free_nothing : (xs : List (Option A)) → at_number xs (free_number xs) ≡ None
  free_nothing xs = nothing_by xs _ refl

  place_most : (xs : List (Option A)) → position_or_len (λ (y : Option A). not (is_some y)) xs ≤ count_by is_some xs
  place_most [] = omega arith
  place_most (None ∷ xs) = omega arith
  place_most (Some x ∷ xs) = omega (arith, sum_by-cons (λ (o : Option A). cond (is_some o) 1 0) (Some x) xs, place_most xs)

  free_by_place : (xs : List (Option A)) (b : Bool) → nat_lt (position_or_len (λ (y : Option A). not (is_some y)) xs) (length xs) ≡ b → free_number xs ≤ position_or_len (λ (y : Option A). not (is_some y)) xs
  free_by_place xs true is = rw is (omega arith)
  free_by_place xs false is = let past : length xs ≤ position_or_len (λ (y : Option A). not (is_some y)) xs = ltb-false _ (length xs) is in rw is past

  -- the lowest number that is free isn't above the count of those that are taken
  pub free_most : (xs : List (Option A)) → free_number xs ≤ count_by is_some xs
  free_most xs = omega (arith, free_by_place xs _ refl, place_most xs)

  pub count-next : (x : A) (xs : List (Option A)) → count_by is_some (with_next x xs) ≡ count_by is_some xs + 1
  count-next x [] = refl
  count-next x (None ∷ xs) = omega (arith, sum_by-cons (λ (o : Option A). cond (is_some o) 1 0) (Some x) xs, sum_by-cons (λ (o : Option A). cond (is_some o) 1 0) None xs)
  count-next x (Some y ∷ xs) =
      omega (arith, sum_by-cons (λ (o : Option A). cond (is_some o) 1 0) (Some y) (with_next x xs), sum_by-cons (λ (o : Option A). cond (is_some o) 1 0) (Some y) xs, count-next x xs)

  room_by : (x : A) (xs : List (Option A)) (most : ℕ) (o : Option ℕ) → first_free xs ≡ o → length xs ≤ most → free_number xs < most → length (with_next x xs) ≤ most
  room_by x xs most (Some i) e few room = rw (next_inside x xs i e, length-set xs i (Some x)) few
  room_by x xs most None e few room = let free = rw e at room in rw (next_behind x xs e) (omega (arith, length-append xs (Some x ∷ [])))

  pub length-next : (x : A) (xs : List (Option A)) (most : ℕ) → length xs ≤ most → free_number xs < most → length (with_next x xs) ≤ most
  length-next x xs most few room = room_by x xs most _ refl few room
