-- Lists: one item that is changed, by its place; and items that belong to places.
use Rattle.std.proofs.Common.{◌≡◌, ◌≢◌, ℕ, zero, suc, ◌<◌, Bool, true, false, cond, ◌⊎◌, inl, inr, List, [], ◌∷◌, ◌++◌, map, length, Some, refl, sym, ap, ◌∙◌, arith}
use Rattle.std.specs.Prelude.{if◌then◌else◌, ◌==◌, slice_get}
use Rattle.std.proofs.lemmas.Bool.Decides.{nat_tests}
use Rattle.alone_laws.specs.Stays.{change_at, belonging}

pub eqb_other : (n k : ℕ) → n ≢ k → (n == k) ≡ false
eqb_other n k h = grind (arith, nat_tests)

pub eqb_same : (n k : ℕ) → n ≡ k → (n == k) ≡ true
eqb_same n k h = grind (arith, nat_tests)

pub eqb_is : (n k : ℕ) → (n == k) ≡ true → n ≡ k
eqb_is n k h = grind (arith, nat_tests)

pub eqb_isnt : (n k : ℕ) → (n == k) ≡ false → n ≢ k
eqb_isnt n k h = grind (arith, nat_tests)

-- ---- tests

pub if_yes : {A : Type 0} (b : Bool) (x y : A) → b ≡ true → (if b then x else y) ≡ x
if_yes true x y is = refl
if_yes false x y is = absurd cc

pub if_no : {A : Type 0} (b : Bool) (x y : A) → b ≡ false → (if b then x else y) ≡ y
if_no true x y is = absurd cc
if_no false x y is = refl

-- ---- one item that is changed

module _ {A : Type 0} (f : A → A) where
  pub length-change_at : (i : ℕ) (xs : List A) → length (change_at i f xs) ≡ length xs
  unfolding change_at
  length-change_at i [] = refl
  length-change_at zero (x ∷ xs) = refl
  length-change_at (suc i) (x ∷ xs) = ap suc (length-change_at i xs)

  pub map-change_at : {B : Type 0} (g : A → B) → ((x : A) → g (f x) ≡ g x) → (i : ℕ) (xs : List A) → map g (change_at i f xs) ≡ map g xs
  unfolding change_at
  map-change_at g same i [] = refl
  map-change_at g same zero (x ∷ xs) = ap (λ y. y ∷ map g xs) (same x)
  map-change_at g same (suc i) (x ∷ xs) = ap (λ ys. g x ∷ ys) (map-change_at g same i xs)

  -- the item there was another one
  pub record Was (i : ℕ) (xs : List A) (y : A) : Type 0 where
    pub old : A
    pub there : slice_get xs i ≡ Some old
    pub is : f old ≡ y

  pub changed_here : (i : ℕ) (xs : List A) (y : A) → slice_get (change_at i f xs) i ≡ Some y → Was i xs y
  unfolding change_at
  changed_here i [] y there = absurd cc
  changed_here zero (x ∷ xs) y there = record { old = x; there = refl; is = cc }
  changed_here (suc i) (x ∷ xs) y there = let w = changed_here i xs y there in record { old = w.old; there = w.there; is = w.is }

  pub changed_beside : (i j : ℕ) (xs : List A) → j ≢ i → slice_get (change_at i f xs) j ≡ slice_get xs j
  unfolding change_at
  changed_beside i j [] other = refl
  changed_beside zero zero (x ∷ xs) other = absurd (other refl)
  changed_beside zero (suc j) (x ∷ xs) other = refl
  changed_beside (suc i) zero (x ∷ xs) other = refl
  changed_beside (suc i) (suc j) (x ∷ xs) other = changed_beside i j xs (λ e. other (ap suc e))

  pub change_at-same : ((x : A) → f x ≡ x) → (i : ℕ) (xs : List A) → change_at i f xs ≡ xs
  unfolding change_at
  change_at-same same i [] = refl
  change_at-same same zero (x ∷ xs) = ap (λ y. y ∷ xs) (same x)
  change_at-same same (suc i) (x ∷ xs) = ap (λ ys. x ∷ ys) (change_at-same same i xs)

-- ---- an item more at the end

module _ {A : Type 0} where
  pub more_item : (xs : List A) (x : A) (j : ℕ) (y : A) → slice_get (xs ++ x ∷ []) j ≡ Some y → (slice_get xs j ≡ Some y) ⊎ ((j ≡ length xs) × (y ≡ x))
  more_item [] x zero y there = let same : y ≡ x = cc in inr (refl, same)
  more_item [] x (suc j) y there = absurd cc
  more_item (z ∷ xs) x zero y there = inl there
  more_item (z ∷ xs) x (suc j) y there = elim (more_item xs x j y there) [
    | inl old ↦ inl old
    | inr new ↦ inr (let e = new.0 in omega (arith, e), new.1)
  ]

  pub item_below : (xs : List A) (j : ℕ) (y : A) → slice_get xs j ≡ Some y → j < length xs
  item_below [] j y there = absurd cc
  item_below (x ∷ xs) zero y there = omega arith
  item_below (x ∷ xs) (suc j) y there = let less = item_below xs j y there in omega (arith, less)

-- ---- what belongs to a place

module _ {A : Type 0} (i : ℕ) where
  belonging_head : (n : ℕ) (ns : List ℕ) (x : A) (xs : List A) (b : Bool) → (n == i) ≡ b → belonging i (n ∷ ns) (x ∷ xs) ≡ cond b (x ∷ belonging i ns xs) (belonging i ns xs)
  unfolding belonging
  belonging_head n ns x xs b is = ap (λ (t : Bool). cond t (x ∷ belonging i ns xs) (belonging i ns xs)) is

  pub belonging_behind : (ns ms : List ℕ) (xs ys : List A) → length ns ≡ length xs → belonging i (ns ++ ms) (xs ++ ys) ≡ belonging i ns xs ++ belonging i ms ys
  unfolding belonging
  belonging_behind [] ms [] ys same = refl
  belonging_behind [] ms (x ∷ xs) ys same = absurd (omega (arith, same))
  belonging_behind (n ∷ ns) ms [] ys same = absurd (omega (arith, same))
  belonging_behind (n ∷ ns) ms (x ∷ xs) ys same = by (belonging_behind ns ms xs ys (omega (arith, same))) (n == i) refl
    where
      by : belonging i (ns ++ ms) (xs ++ ys) ≡ belonging i ns xs ++ belonging i ms ys → (b : Bool) → (n == i) ≡ b
          → belonging i (n ∷ (ns ++ ms)) (x ∷ (xs ++ ys)) ≡ belonging i (n ∷ ns) (x ∷ xs) ++ belonging i ms ys
      by more true is = belonging_head n (ns ++ ms) x (xs ++ ys) true is ∙ ap (λ zs. x ∷ zs) more ∙ ap (λ zs. zs ++ belonging i ms ys) (sym (belonging_head n ns x xs true is))
      by more false is = belonging_head n (ns ++ ms) x (xs ++ ys) false is ∙ more ∙ ap (λ zs. zs ++ belonging i ms ys) (sym (belonging_head n ns x xs false is))

  -- where all places are one
  pub belonging_here : {B : Type 0} (g : B → A) (n : ℕ) (xs : List B) → n ≡ i → belonging i (map (λ x. n) xs) (map g xs) ≡ map g xs
  unfolding belonging
  belonging_here g n [] same = refl
  belonging_here g n (x ∷ xs) same = belonging_head n (map (λ y. n) xs) (g x) (map g xs) true (eqb_same n i same) ∙ ap (λ zs. g x ∷ zs) (belonging_here g n xs same)

  pub belonging_beside : {B : Type 0} (g : B → A) (n : ℕ) (xs : List B) → n ≢ i → belonging i (map (λ x. n) xs) (map g xs) ≡ []
  unfolding belonging
  belonging_beside g n [] other = refl
  belonging_beside g n (x ∷ xs) other = belonging_head n (map (λ y. n) xs) (g x) (map g xs) false (eqb_other n i other) ∙ belonging_beside g n xs other
