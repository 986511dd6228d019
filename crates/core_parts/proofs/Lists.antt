-- Lists of intervals, turned round.
use Rattle.std.proofs.Common.{◌≡◌, ℕ, zero, suc, List, [], ◌∷◌, ◌++◌, map, reverse, Some, refl, sym, ap, subst, ◌∙◌}
use Rattle.std.specs.Prelude.{slice_get, Result, Ok, Err, IfOk}
use Rattle.std.proofs.lemmas.List.{reverse-append}
use Rattle.core_world.specs.Segments.{Interval}
use Rattle.core_world.proofs.Intervals.{Each}
use Rattle.core_parts.specs.declared.interval.Interval as code_interval
use Rattle.core_parts.specs.Code.{interval_value, lowest_first}

map_both : {A B : Type 0} (f : A → B) (xs ys : List A) → map f (xs ++ ys) ≡ map f xs ++ map f ys
map_both f [] ys = refl
map_both f (x ∷ xs) ys = ap (λ zs. f x ∷ zs) (map_both f xs ys)

turned_first : {A : Type 0} (x : A) (xs : List A) → reverse (x ∷ xs) ≡ reverse xs ++ x ∷ []
turned_first x xs = reverse-append (x ∷ []) xs

-- the last one is the lowest
pub turned_last : {A : Type 0} (xs : List A) (x : A) → reverse (xs ++ x ∷ []) ≡ x ∷ reverse xs
turned_last xs x = reverse-append xs (x ∷ [])

pub lowest_last : (is : List code_interval.Interval) (i : code_interval.Interval) → lowest_first (is ++ i ∷ []) ≡ interval_value i ∷ lowest_first is
lowest_last is i = ap reverse (map_both interval_value is (i ∷ [])) ∙ turned_last (map interval_value is) (interval_value i)

pub turned_map : {A B C : Type 0} (f : B → C) (g : A → B) (xs : List A) → reverse (map (λ x. f (g x)) xs) ≡ map f (reverse (map g xs))
turned_map f g [] = refl
turned_map f g (x ∷ xs) =
    turned_first (f (g x)) (map (λ y. f (g y)) xs)
    ∙ ap (λ zs. zs ++ f (g x) ∷ []) (turned_map f g xs)
    ∙ sym (ap (map f) (turned_first (g x) (map g xs)) ∙ map_both f (reverse (map g xs)) (g x ∷ []))

-- ---- what holds of each

each_front : (P : Interval → Type 0) (is js : List Interval) → Each P (is ++ js) → Each P is × Each P js
each_front P [] js each = (tt, each)
each_front P (i ∷ is) js each = let rest = each_front P is js each.1 in ((each.0, rest.0), rest.1)

each_turned : (P : Interval → Type 0) (is : List Interval) → Each P (reverse is) → Each P is
each_turned P [] each = tt
each_turned P (i ∷ is) each =
    let parts = each_front P (reverse is) (i ∷ []) (subst (Each P) (turned_first i is) each) in
    (parts.1.0, each_turned P is parts.0)

each_at : (P : Interval → Type 0) (is : List code_interval.Interval) → Each P (map interval_value is) → (k : ℕ) (i : code_interval.Interval) → slice_get is k ≡ Some i → P (interval_value i)
each_at P [] each k i there = absurd cc
each_at P (j ∷ is) each zero i there = let same : j ≡ i = cc in subst (λ (x : code_interval.Interval). P (interval_value x)) same each.0
each_at P (j ∷ is) each (suc k) i there = each_at P is each.1 k i there

pub lowest_each : (P : Interval → Type 0) (is : List code_interval.Interval) → Each P (lowest_first is) → (k : ℕ) (i : code_interval.Interval) → slice_get is k ≡ Some i → P (interval_value i)
lowest_each P is each = each_at P is (each_turned P (map interval_value is) each)

-- ---- what holds of a result

pub if_ok : {A E : Type 0} (P Q : A → Type 0) → ((x : A) → P x → Q x) → (r : Result A E) → IfOk r P → IfOk r Q
if_ok P Q f (Ok x) h = f x h
if_ok P Q f (Err e) h = tt
