-- What stands at a number after a change.
use Rattle.std.proofs.Common.{◌≡◌, ◌≢◌, ℕ, zero, suc, ◌<◌, List, [], ◌∷◌, length, get_or, Option, Some, None, refl, sym, ap, ◌∙◌, arith}
use Rattle.std.specs.Prelude.{is_some, slice_get, slice_set}
use Rattle.fd_tables.specs.Files.{at_number}
use Rattle.fd_tables.specs.Changes.{with_item}

-- what f makes of an item, and nothing of nothing
abbrev pub made : {A : Type 0} → (A → Option A) → Option A → Option A
made f (Some x) = f x
made f None = None

module _ {A : Type 0} where
  pub behind_head : (g : A → Option A) (y : Option A) (xs : List (Option A)) (i : ℕ) (o : Option (Option A)) → slice_get xs i ≡ o → with_item g (y ∷ xs) (suc i) ≡ y ∷ with_item g xs i
  behind_head g y xs i (Some (Some x)) e = rw e refl
  behind_head g y xs i (Some None) e = rw e refl
  behind_head g y xs i None e = rw e refl

  -- where nothing stands nothing changes
  pub nothing_changes : (g : A → Option A) (xs : List (Option A)) (i : ℕ) → i < length xs → get_or xs i None ≡ None → slice_set xs i (get_or xs i None) ≡ with_item g xs i
  nothing_changes g [] i inside nothing = absurd (omega arith)
  nothing_changes g (Some y ∷ xs) zero inside nothing = cc
  nothing_changes g (None ∷ xs) zero inside nothing = refl
  nothing_changes g (y ∷ xs) (suc i) inside nothing = ap (λ zs. y ∷ zs) (nothing_changes g xs i (omega arith) nothing) ∙ sym (behind_head g y xs i _ refl)

  -- an item that changes stays there
  pub item_there : (f : A → A) (xs : List (Option A)) (i k : ℕ) → is_some (at_number (with_item (λ x. Some (f x)) xs i) k) ≡ is_some (at_number xs k)
  item_there f [] i k = refl
  item_there f (Some y ∷ xs) zero zero = refl
  item_there f (Some y ∷ xs) zero (suc k) = refl
  item_there f (None ∷ xs) zero k = refl
  item_there f (y ∷ xs) (suc i) zero = ap (λ zs. is_some (at_number zs zero)) (behind_head (λ x. Some (f x)) y xs i _ refl)
  item_there f (y ∷ xs) (suc i) (suc k) = ap (λ zs. is_some (at_number zs (suc k))) (behind_head (λ x. Some (f x)) y xs i _ refl) ∙ item_there f xs i k

  -- a change is seen at its number, and nowhere else
  pub item_at : (f : A → Option A) (xs : List (Option A)) (i : ℕ) → at_number (with_item f xs i) i ≡ made f (at_number xs i)
  item_at f [] i = refl
  item_at f (Some y ∷ xs) zero = refl
  item_at f (None ∷ xs) zero = refl
  item_at f (y ∷ xs) (suc i) = ap (λ zs. at_number zs (suc i)) (behind_head f y xs i _ refl) ∙ item_at f xs i

  pub item_other : (f : A → Option A) (xs : List (Option A)) (i k : ℕ) → k ≢ i → at_number (with_item f xs i) k ≡ at_number xs k
  item_other f [] i k other = refl
  item_other f (y ∷ xs) zero zero other = absurd (other refl)
  item_other f (Some y ∷ xs) zero (suc k) other = refl
  item_other f (None ∷ xs) zero (suc k) other = refl
  item_other f (y ∷ xs) (suc i) zero other = ap (λ zs. at_number zs zero) (behind_head f y xs i _ refl)
  item_other f (y ∷ xs) (suc i) (suc k) other = ap (λ zs. at_number zs (suc k)) (behind_head f y xs i _ refl) ∙ item_other f xs i k (λ e. other (ap suc e))

  none_of : (o : Option A) → made (λ (x : A). None) o ≡ None
  none_of None = refl
  none_of (Some x) = refl

  -- an item that goes isn't there, and all others are as before
  pub gone_there : (xs : List (Option A)) (i : ℕ) → at_number (with_item (λ x. None) xs i) i ≡ None
  gone_there xs i = item_at (λ x. None) xs i ∙ none_of (at_number xs i)

  pub others_there : (xs : List (Option A)) (i k : ℕ) → k ≢ i → at_number (with_item (λ x. None) xs i) k ≡ at_number xs k
  others_there xs i k other = item_other (λ x. None) xs i k other

  -- a place that is emptied is empty, and others stay so
  pub emptied_place : (xs : List (Option A)) (i : ℕ) → at_number (slice_set xs i None) i ≡ None
  emptied_place [] i = refl
  emptied_place (y ∷ xs) zero = refl
  emptied_place (y ∷ xs) (suc i) = emptied_place xs i

  pub empty_stays : (xs : List (Option A)) (i k : ℕ) → at_number xs k ≡ None → at_number (slice_set xs i None) k ≡ None
  empty_stays [] i k empty = refl
  empty_stays (y ∷ xs) zero zero empty = refl
  empty_stays (y ∷ xs) zero (suc k) empty = empty
  empty_stays (y ∷ xs) (suc i) zero empty = empty
  empty_stays (y ∷ xs) (suc i) (suc k) empty = empty_stays xs i k empty
