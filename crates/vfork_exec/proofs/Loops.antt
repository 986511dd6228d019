-- A list that a loop goes through.
use Rattle.std.proofs.Common.{◌≡◌, ℕ, zero, suc, ◌+◌, ◌-◌, ◌<◌, Bool, true, false, cond, List, [], ◌∷◌, ◌++◌, map, length, get_or, set, take, drop, Some, refl, sym, ap, ◌∙◌, arith, add-one, drop-cons}
use Rattle.std.specs.Prelude.{filter, slice_get, reverse, option_map}
use Rattle.std.proofs.lemmas.List.{get_or-reverse, length-reverse, length-map}
use Rattle.std.proofs.lemmas.Option.{slice_get-get_or, slice_get-map, get_or_from_slice_get}

-- what is left, by its first item
pub rest_at : {A : Type 0} (xs : List A) (i : ℕ) (x : A) → i < length xs → x ≡ get_or xs i x → drop i xs ≡ x ∷ drop (i + 1) xs
rest_at xs i x less is = rw (add-one) (drop-cons xs i x less ∙ ap (λ y. y ∷ drop (suc i) xs) (sym is))

pub rest_by : {A : Type 0} (xs : List A) (i : ℕ) (d : A) → i < length xs → drop i xs ≡ get_or xs i d ∷ drop (i + 1) xs
rest_by xs i d less = rw (add-one) (drop-cons xs i d less)

set_mapped : {A : Type 0} (f : A → A) (xs : List A) (i : ℕ) (x : A) → i < length xs → x ≡ get_or (map f (take i xs) ++ drop i xs) i x
    → set (map f (take i xs) ++ drop i xs) i (f x) ≡ map f (take (suc i) xs) ++ drop (suc i) xs
set_mapped f [] i x less is = absurd (omega (arith, less))
set_mapped f (z ∷ zs) zero x less is = ap (λ y. f y ∷ zs) is
set_mapped f (z ∷ zs) (suc i) x less is = ap (λ ys. f z ∷ ys) (set_mapped f zs i x (omega (arith, less)) is)

-- one item more is changed
pub map_more : {A : Type 0} (f : A → A) (xs ys : List A) (i : ℕ) (x y : A) → ys ≡ map f (take i xs) ++ drop i xs → i < length xs → x ≡ get_or ys i x → y ≡ f x
    → set ys i y ≡ map f (take (i + 1) xs) ++ drop (i + 1) xs
map_more f xs ys i x y so less at is =
    ap (λ z. set ys i z) is ∙ ap (λ zs. set zs i (f x)) so ∙ rw (add-one) (set_mapped f xs i x less (at ∙ ap (λ zs. get_or zs i x) so))

-- the first item is tested
pub filter_head : {A : Type 0} (p : A → Bool) (x : A) (xs : List A) (b : Bool) → p x ≡ b → filter p (x ∷ xs) ≡ cond b (x ∷ filter p xs) (filter p xs)
filter_head p x xs b is = ap (λ t. cond t (x ∷ filter p xs) (filter p xs)) is

-- a number counted from the end
pub from_end : {A B : Type 0} (f : A → B) (xs : List A) (k : ℕ) (x : A) → k < length xs → slice_get xs (length xs - 1 - k) ≡ Some x → slice_get (reverse (map f xs)) k ≡ Some (f x)
from_end f xs k x less is =
    let long : length (map f xs) ≡ length xs = length-map xs f in
    let mapped : slice_get (map f xs) (length xs - 1 - k) ≡ Some (f x) = slice_get-map f xs (length xs - 1 - k) ∙ ap (option_map f) is in
    slice_get-get_or (reverse (map f xs)) k (f x) (omega (arith, length-reverse (map f xs), long, less))
    ∙ ap Some (get_or-reverse (map f xs) k (f x) (omega (arith, long, less)) ∙ ap (λ n. get_or (map f xs) (n - 1 - k) (f x)) long ∙ get_or_from_slice_get (map f xs) (length xs - 1 - k) (f x) (f x) mapped)

-- the one behind which k others pass the test
pub sought : {A : Type 0} (p : A → Bool) (xs : List A) (i k : ℕ) (x : A) → i < length xs → x ≡ get_or xs i x → p x ≡ true → k ≡ length (filter p (drop (i + 1) xs))
    → (k < length (filter p xs)) × (slice_get (filter p xs) (length (filter p xs) - 1 - k) ≡ Some x)
sought p [] i k x less is passes many = absurd (omega (arith, less))
sought p (z ∷ zs) zero k x less is passes many =
    let behind : k ≡ length (filter p zs) = many in
    let first : suc (length (filter p zs)) - 1 - k ≡ 0 = omega (arith, behind) in
    rw (filter_head p z zs true (ap p (sym is) ∙ passes)) (omega (arith, behind), ap (slice_get (z ∷ filter p zs)) first ∙ ap Some (sym is))
sought {A = A} p (z ∷ zs) (suc i) k x less is passes many =
    by (sought p zs i k x (omega (arith, less)) is passes (many ∙ ap (λ n. length (filter p (drop n (z ∷ zs)))) (add-one (suc i)) ∙ ap (λ n. length (filter p (drop n zs))) (sym (add-one i)))) (p z) refl
  where
    by : (k < length (filter p zs)) × (slice_get (filter p zs) (length (filter p zs) - 1 - k) ≡ Some x) → (b : Bool) → p z ≡ b
        → (k < length (filter p (z ∷ zs))) × (slice_get (filter p (z ∷ zs)) (length (filter p (z ∷ zs)) - 1 - k) ≡ Some x)
    by (few, rest) true e =
        let one : suc (length (filter p zs)) - 1 - k ≡ suc (length (filter p zs) - 1 - k) = omega (arith, few) in
        rw (filter_head p z zs true e) (omega (arith, few), ap (slice_get (z ∷ filter p zs)) one ∙ rest)
    by (few, rest) false e = rw (filter_head p z zs false e) (few, rest)
