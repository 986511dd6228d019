-- Places of lists.
use Rattle.std.proofs.Common.{◌≡◌, ◌≢◌, ℕ, zero, suc, ◌+◌, ◌<◌, ◌⊎◌, inl, inr, Bool, true, false, List, [], ◌∷◌, ◌++◌, length, arith, refl, sym, ap, ◌∙◌}
use Rattle.std.specs.Prelude.{Some, slice_get, slice_set, ◌||◌}
use Rattle.std.specs.List.{list_any}
use Rattle.std.proofs.lemmas.Option.{same_Some, none-some}

pub is_false : (b : Bool) → (b ≡ true → ⊥) → b ≡ false
is_false true never = absurd (never refl)
is_false false never = refl

pub decide : (b : Bool) → (b ≡ true) ⊎ (b ≡ false)
decide true = inl refl
decide false = inr refl

-- ---- places

-- an item of a list that passes a test
pub record Passing (A : Type 0) (p : A → Bool) (xs : List A) : Type 0 where
  pub place : ℕ
  pub item : A
  pub there : slice_get xs place ≡ Some item
  pub passes : p item ≡ true

module _ {A : Type 0} where
  pub same_item : (xs : List A) (i j : ℕ) (x y : A) → i ≡ j → slice_get xs i ≡ Some x → slice_get xs j ≡ Some y → x ≡ y
  same_item xs i j x y same is it = same_Some _ _ (sym is ∙ ap (slice_get xs) same ∙ it)

  pub get_set : (xs : List A) (i : ℕ) (v : A) → i < length xs → slice_get (slice_set xs i v) i ≡ Some v
  get_set [] i v less = absurd (omega arith)
  get_set (x ∷ xs) zero v less = refl
  get_set (x ∷ xs) (suc i) v less = get_set xs i v (omega arith)

  pub after_set : (xs : List A) (i j : ℕ) (v r : A) → slice_get (slice_set xs i v) j ≡ Some r →
      ((j ≡ i) × (r ≡ v)) ⊎ ((j ≢ i) × (slice_get xs j ≡ Some r))
  after_set [] i j v r is = absurd (none-some r is)
  after_set (x ∷ xs) zero zero v r is = inl (refl, sym (same_Some _ _ is))
  after_set (x ∷ xs) zero (suc j) v r is = inr (omega arith, is)
  after_set (x ∷ xs) (suc i) zero v r is = inr (omega arith, is)
  after_set (x ∷ xs) (suc i) (suc j) v r is = elim (after_set xs i j v r is) [
    | inl here ↦ inl (ap suc here.0, here.1)
    | inr other ↦ inr (omega (arith, other.0), other.1)
  ]

  pub get_other : (xs : List A) (i j : ℕ) (v : A) → j ≢ i → slice_get (slice_set xs i v) j ≡ slice_get xs j
  get_other [] i j v other = refl
  get_other (x ∷ xs) zero zero v other = absurd (other refl)
  get_other (x ∷ xs) zero (suc j) v other = refl
  get_other (x ∷ xs) (suc i) zero v other = refl
  get_other (x ∷ xs) (suc i) (suc j) v other = get_other xs i j v (λ e. other (ap suc e))

  pub any_at : (p : A → Bool) (xs : List A) → list_any p xs ≡ true → Passing A p xs
  any_at p [] is = absurd cc
  any_at p (x ∷ xs) is = elim (decide (p x)) [
    | inl here ↦ record { place = 0; item = x; there = refl; passes = here }
    | inr not_here ↦
        let rest : list_any p xs ≡ true = ap (λ (b : Bool). b || list_any p xs) (sym not_here) ∙ is in
        let later = any_at p xs rest in
        record { place = suc later.place; item = later.item; there = later.there; passes = later.passes }
  ]

  pub at_any : (p : A → Bool) (xs : List A) (j : ℕ) (x : A) → slice_get xs j ≡ Some x → p x ≡ true → list_any p xs ≡ true
  at_any p [] j x is passes = absurd (none-some x is)
  at_any p (y ∷ xs) zero x is passes =
      let here : p y ≡ true = ap p (same_Some _ _ is) ∙ passes in ap (λ (b : Bool). b || list_any p xs) here
  at_any p (y ∷ xs) (suc j) x is passes = ap (λ (b : Bool). p y || b) (at_any p xs j x is passes) ∙ or_true (p y)
    where
      or_true : (b : Bool) → (b || true) ≡ true
      or_true true = refl
      or_true false = refl

  -- one more at the end

  pub get_pushed : (xs : List A) (y : A) → slice_get (xs ++ y ∷ []) (length xs) ≡ Some y
  get_pushed [] y = refl
  get_pushed (x ∷ xs) y = get_pushed xs y

  pub get_before : (xs : List A) (y : A) (i : ℕ) (x : A) → slice_get xs i ≡ Some x → slice_get (xs ++ y ∷ []) i ≡ Some x
  get_before [] y i x is = absurd (none-some x is)
  get_before (z ∷ xs) y zero x is = is
  get_before (z ∷ xs) y (suc i) x is = get_before xs y i x is

  pub pushed_cases : (xs : List A) (y : A) (i : ℕ) (x : A) → slice_get (xs ++ y ∷ []) i ≡ Some x → ((i ≡ length xs) × (x ≡ y)) ⊎ (slice_get xs i ≡ Some x)
  pushed_cases [] y zero x is = inl (refl, sym (same_Some _ _ is))
  pushed_cases [] y (suc i) x is = absurd (none-some x is)
  pushed_cases (z ∷ xs) y zero x is = inr is
  pushed_cases (z ∷ xs) y (suc i) x is = elim (pushed_cases xs y i x is) [
    | inl last ↦ inl (ap suc last.0, last.1)
    | inr before ↦ inr before
  ]
