-- What holds of each element of a list, by recursion on the list, and of each number that a list has.
use Rattle.std.proofs.Common.{◌≡◌, ℕ, zero, suc, ◌+◌, ◌<◌, ◌≤◌, inl, inr, Bool, true, false, ◌||◌, nat_eq, List, [], ◌∷◌, ◌++◌, map, flat_map, refl, ap, arith, subst}
use Rattle.std.specs.List.{range_with_len, list_any, AllByRecursion as Each}
use Rattle.std.proofs.lemmas.Bool.{or_cases, or_parts, or_left, or_right, eqb-true, eq-eqb, cases_eq}
use Rattle.bflt_format.proofs.Rising.{has}

pub each-append : {X : Type 0} (P : X → Type 0) (xs ys : List X) → Each P xs → Each P ys → Each P (xs ++ ys)
each-append P [] ys a b = b
each-append P (x ∷ xs) ys a b = (a.0, each-append P xs ys a.1 b)

pub each-flat_map : {X Y : Type 0} (P : Y → Type 0) (f : X → List Y) (xs : List X) → Each (λ x. Each P (f x)) xs → Each P (flat_map f xs)
each-flat_map P f [] a = tt
each-flat_map P f (x ∷ xs) a = each-append P (f x) (flat_map f xs) a.0 (each-flat_map P f xs a.1)

pub each-map : {X Y : Type 0} (P : Y → Type 0) (f : X → Y) (xs : List X) → Each (λ x. P (f x)) xs → Each P (map f xs)
each-map P f [] a = tt
each-map P f (x ∷ xs) a = (a.0, each-map P f xs a.1)

pub each-weaker : {X : Type 0} (P Q : X → Type 0) → ((x : X) → P x → Q x) → (xs : List X) → Each P xs → Each Q xs
each-weaker P Q f [] a = tt
each-weaker P Q f (x ∷ xs) a = (f x a.0, each-weaker P Q f xs a.1)

pub each-range : (P : ℕ → Type 0) (a n : ℕ) → ((k : ℕ) → a ≤ k → k < a + n → P k) → Each P (range_with_len a n)
each-range P a zero f = tt
each-range P a (suc n) f = (f a (omega arith) (omega arith), each-range P (a + 1) n (λ k low high. f k (omega arith) (omega arith)))

pub each_fails : {X : Type 0} (test : X → Bool) (xs : List X) → list_any test xs ≡ false → Each (λ x. test x ≡ false) xs
each_fails test [] e = tt
each_fails test (x ∷ xs) e = let parts = or_parts (test x) (list_any test xs) e in (parts.0, each_fails test xs parts.1)

pub map_same : {X Y : Type 0} (f g : X → Y) (xs : List X) → Each (λ x. f x ≡ g x) xs → map f xs ≡ map g xs
map_same f g [] a = refl
map_same f g (x ∷ xs) a = rw (a.0, map_same f g xs a.1) refl

pub map_map : {X Y Z : Type 0} (g : Y → Z) (f : X → Y) (xs : List X) → map g (map f xs) ≡ map (λ x. g (f x)) xs
map_map g f [] = refl
map_map g f (x ∷ xs) = ap (λ zs. g (f x) ∷ zs) (map_map g f xs)

pub flat_map_one : {X Y : Type 0} (f : X → List Y) (g : X → Y) (xs : List X) → Each (λ x. f x ≡ g x ∷ []) xs → flat_map f xs ≡ map g xs
flat_map_one f g [] a = refl
flat_map_one f g (x ∷ xs) a = rw (a.0, flat_map_one f g xs a.1) refl

pub any-map : {X Y : Type 0} (test : Y → Bool) (f : X → Y) (xs : List X) → list_any test (map f xs) ≡ list_any (λ x. test (f x)) xs
any-map test f [] = refl
any-map test f (x ∷ xs) = ap (λ b. test (f x) || b) (any-map test f xs)

-- what holds of each number of a list holds of its members
pub member_has : (P : ℕ → Type 0) (ns : List ℕ) → Each P ns → (n : ℕ) → has ns n ≡ true → P n
member_has P [] a n is = absurd (cc)
member_has P (k ∷ ns) a n is = elim (or_cases (nat_eq k n) (has ns n) is) [
  | inl same ↦ subst P (eqb-true k n same) a.0
  | inr other ↦ member_has P ns a.1 n other
]

-- the members of a range
pub has-range : (a n k : ℕ) → a ≤ k → k < a + n → has (range_with_len a n) k ≡ true
has-range a zero k low high = absurd (omega arith)
has-range a (suc n) k low high = elim (cases_eq a k) [
  | inl same ↦ or_left (nat_eq a k) (has (range_with_len (a + 1) n) k) (eq-eqb a k same)
  | inr other ↦ or_right (nat_eq a k) (has (range_with_len (a + 1) n) k) (has-range (a + 1) n k (omega arith) (omega arith))
]

pub range_has : (a n k : ℕ) → has (range_with_len a n) k ≡ true → k < a + n
range_has a n k is = member_has (λ k. k < a + n) (range_with_len a n) (each-range (λ k. k < a + n) a n (λ k low high. high)) k is
