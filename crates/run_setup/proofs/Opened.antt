-- A list that is seen through a function, opened at one place.
use Rattle.std.proofs.Common.{◌≡◌, ℕ, zero, suc, ◌+◌, ◌<◌, List, [], ◌∷◌, length, map, get_or, drop, Some, sym, ap, subst, ◌∙◌, add-one, drop-cons}
use Rattle.std.specs.Prelude.{slice_get}
use Rattle.std.specs.List.{AllByRecursion, drop-map}

pub opened : {A B : Type 0} (f : A → B) (xs : List A) (i : ℕ) (x : A) → i < length xs → x ≡ get_or xs i x → drop i (map f xs) ≡ f x ∷ drop (i + 1) (map f xs)
opened f xs i x below is =
    drop-map f i xs
    ∙ ap (map f) (drop-cons xs i x below)
    ∙ ap (λ y. f y ∷ map f (drop (suc i) xs)) (sym is)
    ∙ ap (λ n. f x ∷ map f (drop n xs)) (sym (add-one i))
    ∙ ap (λ ys. f x ∷ ys) (sym (drop-map f (i + 1) xs))

all_behind : {A : Type 0} (P : A → Type 0) (n : ℕ) (xs : List A) → AllByRecursion P xs → AllByRecursion P (drop n xs)
all_behind P zero xs all = all
all_behind P (suc n) [] all = tt
all_behind P (suc n) (x ∷ xs) all = all_behind P n xs all.1

pub each_at : {A B : Type 0} (P : B → Type 0) (f : A → B) (xs : List A) (i : ℕ) (x : A) → i < length xs → x ≡ get_or xs i x → AllByRecursion P (map f xs) → P (f x)
each_at P f xs i x below is all = (subst (AllByRecursion P) (opened f xs i x below is) (all_behind P i (map f xs) all)).0

pub each_got : {A B : Type 0} (P : B → Type 0) (f : A → B) (xs : List A) (i : ℕ) (x : A) → slice_get xs i ≡ Some x → AllByRecursion P (map f xs) → P (f x)
each_got P f [] i x is all = absurd cc
each_got P f (y ∷ xs) zero x is all = let e : y ≡ x = cc in subst (λ z. P (f z)) e all.0
each_got P f (y ∷ xs) (suc i) x is all = each_got P f xs i x is all.1
