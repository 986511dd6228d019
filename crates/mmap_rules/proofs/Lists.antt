-- Items of a list by place: what holds of each, tests and counts, and a list in which a part stands in place of one item.
use Rattle.std.proofs.Common.{◌≡◌, ℕ, zero, suc, ◌+◌, ◌<◌, inl, inr, Bool, true, cond, List, [], ◌∷◌, ◌++◌, take, drop, get_or, Some, refl, ap, subst, ◌∙◌, arith}
use Rattle.std.specs.Prelude.{slice_get, count_by}
use Rattle.std.specs.List.{list_any, sum_by}
use Rattle.std.proofs.lemmas.Bool.{cases_Bool, false≢true, or_left, or_right}
use Rattle.std.proofs.lemmas.Option.{none-some, same_Some, slice_get_within, get_or_from_slice_get}
use Rattle.std.proofs.lemmas.List.Sums.{sum_by-cons, sum_by-append, sum_by-take-drop, sum_by-drop_more, get_or-le-sum_by}

-- ---- what holds of each item

pub each_one : {X : Type 0} (P : X → Type 0) (x : X) → P x → (j : ℕ) (y : X) → slice_get (x ∷ []) j ≡ Some y → P y
each_one P x here zero y is = subst P (same_Some x y is) here
each_one P x here (suc j) y is = absurd (none-some y is)

pub each_append : {X : Type 0} (P : X → Type 0) (xs ys : List X) → ((j : ℕ) (x : X) → slice_get xs j ≡ Some x → P x)
    → ((j : ℕ) (x : X) → slice_get ys j ≡ Some x → P x) → (j : ℕ) (x : X) → slice_get (xs ++ ys) j ≡ Some x → P x
each_append P [] ys front back j x is = back j x is
each_append P (y ∷ xs) ys front back zero x is = front 0 x is
each_append P (y ∷ xs) ys front back (suc j) x is = each_append P xs ys (λ i. front (suc i)) back j x is

pub each_take : {X : Type 0} (P : X → Type 0) (k : ℕ) (xs : List X) → ((j : ℕ) (x : X) → slice_get xs j ≡ Some x → P x)
    → (j : ℕ) (x : X) → slice_get (take k xs) j ≡ Some x → P x
each_take P zero xs each j x is = absurd (none-some x is)
each_take P (suc k) [] each j x is = absurd (none-some x is)
each_take P (suc k) (y ∷ xs) each zero x is = each 0 x is
each_take P (suc k) (y ∷ xs) each (suc j) x is = each_take P k xs (λ i. each (suc i)) j x is

pub each_drop : {X : Type 0} (P : X → Type 0) (k : ℕ) (xs : List X) → ((j : ℕ) (x : X) → slice_get xs j ≡ Some x → P x)
    → (j : ℕ) (x : X) → slice_get (drop k xs) j ≡ Some x → P x
each_drop P zero xs each j x is = each j x is
each_drop P (suc k) [] each j x is = absurd (none-some x is)
each_drop P (suc k) (y ∷ xs) each j x is = each_drop P k xs (λ i. each (suc i)) j x is

-- a part in place of one item
pub each_cut : {X : Type 0} (P : X → Type 0) (k : ℕ) (xs part : List X) → ((j : ℕ) (x : X) → slice_get xs j ≡ Some x → P x)
    → ((j : ℕ) (x : X) → slice_get part j ≡ Some x → P x) → (j : ℕ) (x : X) → slice_get (take k xs ++ part ++ drop (k + 1) xs) j ≡ Some x → P x
each_cut P k xs part each parts =
    each_append P (take k xs ++ part) (drop (k + 1) xs) (each_append P (take k xs) part (each_take P k xs each) parts) (each_drop P (k + 1) xs each)

-- ---- an item that passes a test

pub record Found (X : Type 0) (test : X → Bool) (xs : List X) : Type 0 where
  pub at : ℕ
  pub item : X
  pub there : slice_get xs at ≡ Some item
  pub passes : test item ≡ true

later : {X : Type 0} (test : X → Bool) (y : X) (xs : List X) → Found X test xs → Found X test (y ∷ xs)
later test y xs f = record { at = suc f.at; item = f.item; there = f.there; passes = f.passes }

pub found_any : {X : Type 0} (test : X → Bool) (xs : List X) → list_any test xs ≡ true → Found X test xs
found_any test [] any = absurd (false≢true any)
found_any test (x ∷ xs) any =
    elim (cases_Bool (test x)) [
      | inl passed ↦ record { at = 0; item = x; there = refl; passes = passed }
      | inr fails ↦ later test x xs (found_any test xs (rw fails at any))
    ]

pub any_found : {X : Type 0} (test : X → Bool) (xs : List X) (j : ℕ) (x : X) → slice_get xs j ≡ Some x → test x ≡ true → list_any test xs ≡ true
any_found test [] j x is passes = absurd (none-some x is)
any_found test (y ∷ xs) zero x is passes = or_left (test y) (list_any test xs) (ap test (same_Some y x is) ∙ passes)
any_found test (y ∷ xs) (suc j) x is passes = or_right (test y) (list_any test xs) (any_found test xs j x is passes)

pub found_counted : {X : Type 0} (test : X → Bool) (xs : List X) → 0 < count_by test xs → Found X test xs
found_counted test [] some = absurd (omega arith)
found_counted {X} test (x ∷ xs) some =
    let parts : count_by test (x ∷ xs) ≡ cond {A = ℕ} (test x) 1 0 + count_by test xs = sum_by-cons (λ (y : X). cond (test y) 1 0) x xs in
    elim (cases_Bool (test x)) [
      | inl passed ↦ record { at = 0; item = x; there = refl; passes = passed }
      | inr fails ↦ (let none : cond {A = ℕ} (test x) 1 0 ≡ 0 = ap (λ (b : Bool). cond {A = ℕ} b 1 0) fails in later test x xs (found_counted test xs (omega (arith, parts, none, some))))
    ]

pub counted_found : {X : Type 0} (test : X → Bool) (xs : List X) (j : ℕ) (x : X) → slice_get xs j ≡ Some x → test x ≡ true → 0 < count_by test xs
counted_found {X} test xs j x is passes =
    let least = get_or-le-sum_by (λ (y : X). cond (test y) 1 0) xs j x (slice_get_within xs j x is) in
    let one : cond {A = ℕ} (test (get_or xs j x)) 1 0 ≡ 1 = ap (λ (y : X). cond {A = ℕ} (test y) 1 0) (get_or_from_slice_get xs j x x is) ∙ ap (λ (b : Bool). cond {A = ℕ} b 1 0) passes in
    omega (arith, least, one)

-- ---- sums

-- a part in place of one item
pub sum_cut : {X : Type 0} (f : X → ℕ) (k : ℕ) (xs part : List X) (x : X) → slice_get xs k ≡ Some x
    → sum_by f (take k xs ++ part ++ drop (k + 1) xs) + f x ≡ sum_by f xs + sum_by f part
sum_cut f k xs part x is =
    let all = sum_by-append f (take k xs ++ part) (drop (k + 1) xs) in
    let front = sum_by-append f (take k xs) part in
    let whole = sum_by-take-drop f xs k in
    let back = sum_by-drop_more f xs k x (slice_get_within xs k x is) in
    let item : f (get_or xs k x) ≡ f x = ap f (get_or_from_slice_get xs k x x is) in
    omega (arith, all, front, whole, back, item)
