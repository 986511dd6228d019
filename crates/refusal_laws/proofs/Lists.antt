-- What holds of each item of a list, when the list changes.
use Rattle.std.proofs.Common.{◌≡◌, ℕ, zero, suc, true, false, inl, inr, List, [], ◌∷◌, ◌++◌, map, take, drop, Some, refl, sym, subst, ◌∙◌, ◌<◌, arith}
use Rattle.std.specs.Prelude.{◌==◌, slice_get}
use Rattle.std.specs.List.{AllByRecursion}
use Rattle.std.proofs.lemmas.Bool.{cases_Bool}
use Rattle.std.proofs.lemmas.Option.{same_Some}
use Rattle.vfork_exec.specs.Keyed.{find, change, without, Falls}
use Rattle.vfork_exec.proofs.Keyed.{eqb_other, eqb_same, find_head, change_head, without_head, find_below}

module _ {A : Type 0} (P : A → Type 0) where
  pub each_map : (f : A → A) → ((x : A) → P x → P (f x)) → (xs : List A) → AllByRecursion P xs → AllByRecursion P (map f xs)
  each_map f on [] h = tt
  each_map f on (x ∷ xs) h = (on x h.0, each_map f on xs h.1)

  pub each_append : (xs ys : List A) → AllByRecursion P xs → AllByRecursion P ys → AllByRecursion P (xs ++ ys)
  each_append [] ys front back = back
  each_append (x ∷ xs) ys front back = (front.0, each_append xs ys front.1 back)

  pub each_take : (k : ℕ) (xs : List A) → AllByRecursion P xs → AllByRecursion P (take k xs)
  each_take zero xs h = tt
  each_take (suc k) [] h = tt
  each_take (suc k) (x ∷ xs) h = (h.0, each_take k xs h.1)

  pub each_drop : (k : ℕ) (xs : List A) → AllByRecursion P xs → AllByRecursion P (drop k xs)
  each_drop zero xs h = h
  each_drop (suc k) [] h = tt
  each_drop (suc k) (x ∷ xs) h = each_drop k xs h.1

  -- by places
  pub each_there : (xs : List A) → AllByRecursion P xs → (j : ℕ) (x : A) → slice_get xs j ≡ Some x → P x
  each_there [] h j x is = absurd cc
  each_there (y ∷ ys) h zero x is = subst P (same_Some y x is) h.0
  each_there (y ∷ ys) h (suc j) x is = each_there ys h.1 j x is

  pub each_by_place : (xs : List A) → ((j : ℕ) (x : A) → slice_get xs j ≡ Some x → P x) → AllByRecursion P xs
  each_by_place [] each = tt
  each_by_place (x ∷ xs) each = (each 0 x refl, each_by_place xs (λ j. each (suc j)))

  -- and by numbers
  pub each_by_number : (key : A → ℕ) (b : ℕ) (xs : List A) → Falls key b xs → ((k : ℕ) (x : A) → find key k xs ≡ Some x → P x) → AllByRecursion P xs
  each_by_number key b [] falls each = tt
  each_by_number key b (x ∷ xs) falls each = (
    each (key x) x (find_head key (key x) x xs true (eqb_same (key x) (key x) refl)),
    each_by_number key (key x) xs falls.1 (λ k y is. each k y (find_head key k x xs false (eqb_other (key x) k (λ same. (
        let below : k < key x = find_below key k (key x) xs y falls.1 is in
        omega (arith, below, same)))) ∙ is)),
  )

  module _ (key : A → ℕ) (k : ℕ) where
    pub each_found : (xs : List A) (x : A) → AllByRecursion P xs → find key k xs ≡ Some x → P x
    unfolding find
    each_found [] x h is = absurd cc
    each_found (y ∷ ys) x h is = elim (cases_Bool (key y == k)) [
      | inl here ↦ subst P (same_Some y x (sym (find_head key k y ys true here) ∙ is)) h.0
      | inr later ↦ each_found ys x h.1 (sym (find_head key k y ys false later) ∙ is)
    ]

    pub each_change : (f : A → A) → ((x : A) → P x → P (f x)) → (xs : List A) → AllByRecursion P xs → AllByRecursion P (change key k f xs)
    unfolding change
    each_change f on [] h = tt
    each_change f on (y ∷ ys) h = elim (cases_Bool (key y == k)) [
      | inl here ↦ subst (AllByRecursion P) (sym (change_head key k f y ys true here)) (on y h.0, h.1)
      | inr later ↦ subst (AllByRecursion P) (sym (change_head key k f y ys false later)) (h.0, each_change f on ys h.1)
    ]

    pub each_without : (xs : List A) → AllByRecursion P xs → AllByRecursion P (without key k xs)
    unfolding without
    each_without [] h = tt
    each_without (y ∷ ys) h = elim (cases_Bool (key y == k)) [
      | inl here ↦ subst (AllByRecursion P) (sym (without_head key k y ys true here)) (each_without ys h.1)
      | inr later ↦ subst (AllByRecursion P) (sym (without_head key k y ys false later)) (h.0, each_without ys h.1)
    ]

pub each_weaker : {A : Type 0} (P Q : A → Type 0) → ((x : A) → P x → Q x) → (xs : List A) → AllByRecursion P xs → AllByRecursion Q xs
each_weaker P Q weaker [] h = tt
each_weaker P Q weaker (x ∷ xs) h = (weaker x h.0, each_weaker P Q weaker xs h.1)
