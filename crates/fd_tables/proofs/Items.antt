-- What a change at one number leaves of all items, of a sum and of the length.
use Rattle.std.proofs.Common.{◌≡◌, ℕ, zero, suc, ◌+◌, ◌≤◌, List, [], ◌∷◌, length, Option, Some, None, refl, sym, ap, ◌∙◌, subst, ◌⊎◌, inl, inr, arith}
use Rattle.std.specs.Prelude.{slice_set, sum_by}
use Rattle.std.proofs.lemmas.Bool.{cases_eq}
use Rattle.std.proofs.lemmas.List.Sums.{sum_by-cons}
use Rattle.fd_tables.specs.Files.{at_number, free_number, with_next}
use Rattle.fd_tables.specs.Changes.{with_item}
use Rattle.fd_tables.proofs.AtNumbers.{made, behind_head, item_at, item_other}
use Rattle.fd_tables.proofs.NextNumbers.{next_there, next_other}

module _ {A : Type 0} where
  -- what holds of each item holds of each behind a change
  pub item_each : (P : Option A → Type 0) (f : A → Option A) (xs : List (Option A)) (i : ℕ) → P (made f (at_number xs i)) → ((k : ℕ) → P (at_number xs k)) → (k : ℕ) → P (at_number (with_item f xs i) k)
  item_each P f xs i here each k = by (cases_eq k i)
    where
      by : (k ≡ i) ⊎ (k ≡ i → ⊥) → P (at_number (with_item f xs i) k)
      by (inl e) = subst (λ (j : ℕ). P (at_number (with_item f xs i) j)) (sym e) (subst P (sym (item_at f xs i)) here)
      by (inr other) = subst P (sym (item_other f xs i k other)) (each k)

  pub next_each : (P : Option A → Type 0) (x : A) (xs : List (Option A)) → P (Some x) → ((k : ℕ) → P (at_number xs k)) → (k : ℕ) → P (at_number (with_next x xs) k)
  next_each P x xs here each k = by (cases_eq k (free_number xs))
    where
      by : (k ≡ free_number xs) ⊎ (k ≡ free_number xs → ⊥) → P (at_number (with_next x xs) k)
      by (inl e) = subst (λ (j : ℕ). P (at_number (with_next x xs) j)) (sym e) (subst P (sym (next_there x xs)) here)
      by (inr other) = subst P (sym (next_other x xs k other)) (each k)

  pub length-item : (f : A → Option A) (xs : List (Option A)) (i : ℕ) → length (with_item f xs i) ≡ length xs
  length-item f [] i = refl
  length-item f (Some y ∷ xs) zero = refl
  length-item f (None ∷ xs) zero = refl
  length-item f (y ∷ xs) (suc i) = ap length (behind_head f y xs i _ refl) ∙ ap suc (length-item f xs i)

  module _ (w : Option A → ℕ) where
    -- a sum gains what the item weighs then, and loses what it weighed
    pub sum-item : (f : A → Option A) (xs : List (Option A)) (i : ℕ) → sum_by w (with_item f xs i) + w (at_number xs i) ≡ sum_by w xs + w (made f (at_number xs i))
    sum-item f [] i = refl
    sum-item f (Some y ∷ xs) zero = omega (arith, sum_by-cons w (f y) xs, sum_by-cons w (Some y) xs)
    sum-item f (None ∷ xs) zero = refl
    sum-item f (y ∷ xs) (suc i) = omega (arith, ap (sum_by w) (behind_head f y xs i _ refl), sum_by-cons w y (with_item f xs i), sum_by-cons w y xs, sum-item f xs i)

    pub sum-item_same : (f : A → Option A) (xs : List (Option A)) (i : ℕ) → w (made f (at_number xs i)) ≡ w (at_number xs i) → sum_by w (with_item f xs i) ≡ sum_by w xs
    sum-item_same f xs i same = omega (arith, sum-item f xs i)

    pub sum-next : w None ≡ 0 → (x : A) (xs : List (Option A)) → sum_by w (with_next x xs) ≡ sum_by w xs + w (Some x)
    sum-next none x [] = refl
    sum-next none x (None ∷ xs) = omega (arith, sum_by-cons w (Some x) xs, sum_by-cons w None xs)
    sum-next none x (Some y ∷ xs) = omega (arith, sum_by-cons w (Some y) (with_next x xs), sum_by-cons w (Some y) xs, sum-next none x xs)

    -- the same of a place of a list, where an item takes its place
    pub sum-place : (xs : List (Option A)) (i : ℕ) (y : Option A) → (length xs ≤ i → y ≡ None) → sum_by w (slice_set xs i y) + w (at_number xs i) ≡ sum_by w xs + w y
    sum-place [] i y past = let e : y ≡ None = past (omega arith) in rw e refl
    sum-place (x ∷ xs) zero y past = omega (arith, sum_by-cons w y xs, sum_by-cons w x xs)
    sum-place (x ∷ xs) (suc i) y past = omega (arith, sum_by-cons w x (slice_set xs i y), sum_by-cons w x xs, sum-place xs i y (λ h. past (omega arith)))
