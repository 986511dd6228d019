-- The start of what stands before the first element that passes.
use Rattle.std.proofs.Common.{◌≡◌, ℕ, zero, suc, ◌+◌, inl, inr, Bool, false, List, [], ◌∷◌, length, take, min, refl, ap, ◌∙◌, arith, sym}
use Rattle.std.specs.List.{before_first, position_or_len}
use Rattle.std.proofs.lemmas.Bool.{cases_Bool}

before_cons : (p : ℕ → Bool) (x : ℕ) (xs : List ℕ) → p x ≡ false → before_first p (x ∷ xs) ≡ x ∷ before_first p xs
before_cons p x xs out = rw out (ap (λ k. take k (x ∷ xs)) (let e : 1 + position_or_len p xs ≡ suc (position_or_len p xs) = omega arith in e))

first_take : (p : ℕ → Bool) (n : ℕ) (xs : List ℕ) → before_first p (take n xs) ≡ take n (before_first p xs)
first_take p zero [] = refl
first_take p zero (x ∷ xs) = refl
first_take p (suc n) [] = refl
first_take p (suc n) (x ∷ xs) = elim (cases_Bool (p x)) [
  | inl is ↦ rw is refl
  | inr out ↦ before_cons p x (take n xs) out ∙ ap (λ ys. x ∷ ys) (first_take p n xs) ∙ ap (take (suc n)) (sym (before_cons p x xs out))
]

take_most : (n : ℕ) (xs : List ℕ) → take (min (length xs) n) xs ≡ take n xs
take_most zero [] = refl
take_most (suc n) [] = ap (λ k. take {A = ℕ} k []) (let e : min (length {A = ℕ} []) (suc n) ≡ 0 = omega arith in e)
take_most zero (x ∷ xs) = ap (λ k. take k (x ∷ xs)) (let e : min (length (x ∷ xs)) 0 ≡ 0 = omega arith in e)
take_most (suc n) (x ∷ xs) = ap (λ k. take k (x ∷ xs)) (let e : min (length (x ∷ xs)) (suc n) ≡ suc (min (length xs) n) = omega arith in e) ∙ ap (λ ys. x ∷ ys) (take_most n xs)

pub start_is : (p : ℕ → Bool) (n : ℕ) (xs : List ℕ) → before_first p (take (min (length xs) n) xs) ≡ take n (before_first p xs)
start_is p n xs = ap (before_first p) (take_most n xs) ∙ first_take p n xs
