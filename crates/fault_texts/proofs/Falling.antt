-- Counts by descending number.
use Rattle.std.proofs.Common.{◌≡◌, ◌∙◌, ℕ, zero, suc, ◌-◌, ◌<◌, ◌≤◌, ◌==◌, inl, inr, Bool, List, [], ◌∷◌, ◌++◌, filter, length, map, slice_index_or, refl, sym, ap, arith}
use Rattle.std.specs.List.{AllByRecursion as Each, flat_map}
use Rattle.std.specs.List.Sorted.{IsNonDecreasingBy, IsPermutation, IsStableByKey, ties}
use Rattle.std.specs.Ordering.{nat_cmp, is_lt}
use Rattle.std.proofs.lemmas.Bool.{cases_eq, eq-eqb, ne_eqb}
use Rattle.std.proofs.lemmas.Grind.{common_steps}
use Rattle.std.proofs.lemmas.List.Sorted.{All-permutation}
use Rattle.std.proofs.lemmas.List.Sums.{count_by-le-length}
use Rattle.std.proofs.lemmas.List.Elements.{All-from_recursion, recursion_from_All}
use Rattle.fault_texts.specs.declared.counts.Subject.{Subject}
use Rattle.fault_texts.specs.declared.counts.Count.{Count}
use Rattle.fault_texts.specs.Counts.{order_of, count_in, down_from, by_count}

each_weaker : (P Q : Count → Type 0) → ((c : Count) → P c → Q c) → (cs : List Count) → Each P cs → Each Q cs
each_weaker P Q f [] all = tt
each_weaker P Q f (c ∷ cs) all = (f c all.0, each_weaker P Q f cs all.1)

-- no count is above those before it
abbrev IsFalling : List Count → Type 0
IsFalling [] = Unit {0}
IsFalling (c ∷ cs) = Each (λ d. d.count ≤ c.count) cs × IsFalling cs

abbrev at : ℕ → List Count → List Count
at k cs = filter (λ c. c.count == k) cs

none_at : (k : ℕ) (cs : List Count) → Each (λ c. c.count < k) cs → at k cs ≡ []
none_at k [] below = refl
none_at k (c ∷ cs) below = rw (ne_eqb c.count k (λ same. let under = below.0 in absurd (omega arith))) (none_at k cs below.1)

-- below its own number a count is in no list
below : (n : ℕ) (c : Count) (cs : List Count) → n < c.count → flat_map (λ k. at k (c ∷ cs)) (down_from n) ≡ flat_map (λ k. at k cs) (down_from n)
below zero c cs over = rw (ne_eqb c.count 0 (λ same. absurd (omega arith))) refl
below (suc n) c cs over =
    rw (ne_eqb c.count (suc n) (λ same. absurd (omega arith))) (ap (λ ds. at (suc n) cs ++ ds) (below n c cs (omega arith)))

-- and a count that isn't below the others comes first
greatest : (n : ℕ) (c : Count) (cs : List Count) → Each (λ d. d.count ≤ c.count) cs → c.count ≤ n
    → flat_map (λ k. at k (c ∷ cs)) (down_from n) ≡ c ∷ flat_map (λ k. at k cs) (down_from n)
greatest zero c cs high under = rw (eq-eqb c.count 0 (omega arith)) refl
greatest (suc n) c cs high under = elim (cases_eq c.count (suc n)) [
  | inl here ↦ rw (eq-eqb c.count (suc n) here) (ap (λ ds. c ∷ (at (suc n) cs ++ ds)) (below n c cs (omega arith)))
  | inr later ↦
      let none = none_at (suc n) cs (each_weaker (λ d. d.count ≤ c.count) (λ d. d.count < suc n) (λ d order. omega arith) cs high) in
      rw (ne_eqb c.count (suc n) later, none) (greatest n c cs high (omega arith))
]

nothing : (n : ℕ) → flat_map (λ k. at k []) (down_from n) ≡ []
nothing zero = refl
nothing (suc n) = nothing n

all_falling : (n : ℕ) (cs : List Count) → IsFalling cs → Each (λ c. c.count ≤ n) cs → flat_map (λ k. at k cs) (down_from n) ≡ cs
all_falling n [] down under = nothing n
all_falling n (c ∷ cs) down under = greatest n c cs down.0 under.0 ∙ ap (λ ds. c ∷ ds) (all_falling n cs down.1 under.1)

each_get : (P : Count → Type 0) (cs : List Count) → ((k : ℕ) (d : Count) → k < length cs → P (slice_index_or cs k d)) → Each P cs
each_get P [] holds = tt
each_get P (c ∷ cs) holds = (holds 0 c (omega arith), each_get P cs (λ k d below. holds (suc k) d (omega arith)))

get_each : (P : Count → Type 0) (cs : List Count) (k : ℕ) (d : Count) → k < length cs → Each P cs → P (slice_index_or cs k d)
get_each P [] k d inside all = absurd (omega arith)
get_each P (c ∷ cs) zero d inside all = all.0
get_each P (c ∷ cs) (suc k) d inside all = get_each P cs k d (omega arith) all.1

-- in the order of what is left to m
falling : (m : ℕ) (cs : List Count) → Each (λ c. c.count ≤ m) cs → IsNonDecreasingBy (λ c. m - c.count) cs → IsFalling cs
falling m [] under order = tt
falling m (c ∷ cs) under order = (
  each_get (λ d. d.count ≤ c.count) cs (λ k d inside.
      let here = under.0 in
      let there = get_each (λ c. c.count ≤ m) cs k d inside under.1 in
      let step = order 0 (suc k) d (omega arith) (omega arith) in
      omega arith),
  falling m cs under.1 (λ j k d up inside. order (suc j) (suc k) d (omega arith) (omega arith)),
)

tied : (m k : ℕ) (c : Count) → c.count ≤ m → k ≤ m
    → ties (λ (x y : Count). is_lt (nat_cmp (m - x.count) (m - y.count))) (record { subject = record { section = 0; table = 0; symbol = 0 }; count = k }) c ≡ (c.count == k)
tied m k c under low = grind (arith, common_steps)

same_filter : (p q : Count → Bool) (cs : List Count) → Each (λ c. p c ≡ q c) cs → filter p cs ≡ filter q cs
same_filter p q [] same = refl
same_filter p q (c ∷ cs) same = rw (same.0, same_filter p q cs same.1) refl

same_at : (m : ℕ) (cs ds : List Count) → Each (λ c. c.count ≤ m) cs → Each (λ c. c.count ≤ m) ds → IsStableByKey (λ c. m - c.count) nat_cmp cs ds → (k : ℕ) → k ≤ m → at k ds ≡ at k cs
same_at m cs ds under on stable k low =
    let mark : Count = record { subject = record { section = 0; table = 0; symbol = 0 }; count = k } in
    let test : Count → Bool = ties (λ (x y : Count). is_lt (nat_cmp (m - x.count) (m - y.count))) mark in
    sym (same_filter test (λ c. c.count == k) ds (each_weaker (λ c. c.count ≤ m) (λ c. test c ≡ (c.count == k)) (λ c less. tied m k c less low) ds on))
    ∙ stable mark
    ∙ same_filter test (λ c. c.count == k) cs (each_weaker (λ c. c.count ≤ m) (λ c. test c ≡ (c.count == k)) (λ c less. tied m k c less low) cs under)

down_same : (f g : ℕ → List Count) (m n : ℕ) → n ≤ m → ((k : ℕ) → k ≤ m → f k ≡ g k) → flat_map f (down_from n) ≡ flat_map g (down_from n)
down_same f g m zero low same = rw (same 0 (omega arith)) refl
down_same f g m (suc n) low same = rw (same (suc n) low, down_same f g m n (omega arith) same) refl

-- what a stable sort by that leaves
pub fallen : (m n : ℕ) (cs ds : List Count) → n ≤ m → IsPermutation cs ds → IsNonDecreasingBy (λ c. m - c.count) ds → IsStableByKey (λ c. m - c.count) nat_cmp cs ds
    → Each (λ c. c.count ≤ n) cs → ds ≡ by_count n cs
fallen m n cs ds low moved order stable under =
    let on = recursion_from_All (λ c. c.count ≤ n) ds (All-permutation (λ c. c.count ≤ n) cs ds moved (All-from_recursion (λ c. c.count ≤ n) cs under)) in
    let over = each_weaker (λ c. c.count ≤ n) (λ c. c.count ≤ m) (λ c less. omega arith) ds on in
    let over_all = each_weaker (λ c. c.count ≤ n) (λ c. c.count ≤ m) (λ c less. omega arith) cs under in
    sym (all_falling n ds (falling m ds over order) on)
    ∙ down_same (λ k. at k ds) (λ k. at k cs) m n low (same_at m cs ds over_all over stable)

-- no subject is among others more often than there are
pub counts_under : (ss rs : List Subject) → Each (λ c. c.count ≤ length ss) (map (count_in ss) rs)
counts_under ss [] = tt
counts_under ss (r ∷ rs) = (count_by-le-length (λ s. order_of s == order_of r) ss, counts_under ss rs)
