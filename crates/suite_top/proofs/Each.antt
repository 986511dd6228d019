-- What holds of each element that a loop has seen.
use Rattle.std.proofs.Common.{◌≡◌, ℕ, zero, suc, ◌+◌, ◌<◌, ◌≤◌, List, [], ◌∷◌, map, length, get_or, subst, arith}
use Rattle.std.specs.List.{AllByRecursion}

module _ {A B : Type 0} (value : A → B) (P : B → Type 0) where
  -- of the first n elements
  abbrev pub OfFirst : (n : ℕ) → List A → Type 0
  OfFirst n [] = Unit {0}
  OfFirst zero (x ∷ xs) = Unit {0}
  OfFirst (suc n) (x ∷ xs) = P (value x) × OfFirst n xs

  pub of_none : (xs : List A) → OfFirst 0 xs
  of_none [] = tt
  of_none (x ∷ xs) = tt

  one_more : (xs : List A) (n : ℕ) (x : A) → n < length xs → x ≡ get_or xs n x → P (value x) → OfFirst n xs → OfFirst (suc n) xs
  one_more [] n x less is p of = tt
  one_more (y ∷ ys) zero x less is p of = (subst (λ (z : A). P (value z)) is p, of_none ys)
  one_more (y ∷ ys) (suc n) x less is p of = (of.0, one_more ys n x (omega (arith, less)) is p of.1)

  pub of_one_more : (xs : List A) (n : ℕ) (x : A) → n < length xs → x ≡ get_or xs n x → P (value x) → OfFirst n xs → OfFirst (n + 1) xs
  of_one_more xs n x less is p of =
      let next : suc n ≡ n + 1 = omega arith in
      subst (λ m. OfFirst m xs) next (one_more xs n x less is p of)

  pub of_all : (xs : List A) (n : ℕ) → length xs ≤ n → OfFirst n xs → AllByRecursion P (map value xs)
  of_all [] n most of = tt
  of_all (x ∷ xs) zero most of = absurd (omega (arith, most))
  of_all (x ∷ xs) (suc n) most of = (of.0, of_all xs n (omega (arith, most)) of.1)
