-- A stable sort of words by their numbers.
use Rattle.std.proofs.Common.{◌≡◌, ℕ, zero, suc, ◌+◌, ◌<◌, ◌≤◌, ◌==◌, inl, inr, List, [], ◌∷◌, ◌++◌, flat_map, filter, length, slice_index_or, refl, sym, ap, ◌∙◌, arith, eq-eqb}
use Rattle.std.specs.List.{range_with_len, AllByRecursion as Each}
use Rattle.std.specs.Ordering.{nat_cmp, is_lt}
use Rattle.std.specs.List.Sorted.{IsNonDecreasingBy, IsPermutation, IsStableByKey, ties}
use Rattle.std.proofs.lemmas.Bool.{cases_eq, ne_eqb}
use Rattle.std.proofs.lemmas.List.Sorted.{All-permutation}
use Rattle.std.proofs.lemmas.List.Elements.{All-from_recursion, recursion_from_All}
use Rattle.std.proofs.lemmas.Grind.{common_steps}
use Rattle.elf2flt_tool.specs.declared.entry_word.EntryWord.{EntryWord}
use Rattle.elf2flt_tool.specs.Faults.{by_place}
use Rattle.elf2flt_tool.proofs.Members.{each-weaker, each-range}
use Rattle.elf2flt_tool.proofs.EntryWords.{at_place}
use Rattle.elf2flt_tool.proofs.AllFaults.{flat_same}

-- no word is below those before it
abbrev IsRising : List EntryWord → Type 0
IsRising [] = Unit {0}
IsRising (w ∷ ws) = Each (λ v. w.place ≤ v.place) ws × IsRising ws

each_get : (P : EntryWord → Type 0) (ws : List EntryWord) → ((k : ℕ) (d : EntryWord) → k < length ws → P (slice_index_or ws k d)) → Each P ws
each_get P [] holds = tt
each_get P (w ∷ ws) holds = (holds 0 w (omega arith), each_get P ws (λ k d below. holds (suc k) d (omega arith)))

rising : (ws : List EntryWord) → IsNonDecreasingBy (λ w. w.place) ws → IsRising ws
rising [] ascend = tt
rising (w ∷ ws) ascend = (
  each_get (λ v. w.place ≤ v.place) ws (λ k d below. ascend 0 (suc k) d (omega arith) (omega arith)),
  rising ws (λ j k d order below. ascend (suc j) (suc k) d (omega arith) (omega arith)),
)

none_at : (p : ℕ) (ws : List EntryWord) → Each (λ w. p < w.place) ws → filter (at_place p) ws ≡ []
none_at p [] above = refl
none_at p (w ∷ ws) above = rw (ne_eqb w.place p (λ same. let over = above.0 in absurd (omega arith))) (none_at p ws above.1)

-- behind its own number a word is in no list
behind : (n a : ℕ) (w : EntryWord) (ws : List EntryWord) → w.place < a → flat_map (λ p. filter (at_place p) (w ∷ ws)) (range_with_len a n) ≡ flat_map (λ p. filter (at_place p) ws) (range_with_len a n)
behind zero a w ws over = refl
behind (suc n) a w ws over =
    rw (ne_eqb w.place a (λ same. absurd (omega arith))) (ap (λ vs. filter (at_place a) ws ++ vs) (behind n (a + 1) w ws (omega arith)))

-- and a word that isn't above the others comes first
least : (n a : ℕ) (w : EntryWord) (ws : List EntryWord) → Each (λ v. w.place ≤ v.place) ws → a ≤ w.place → w.place < a + n
    → flat_map (λ p. filter (at_place p) (w ∷ ws)) (range_with_len a n) ≡ w ∷ flat_map (λ p. filter (at_place p) ws) (range_with_len a n)
least zero a w ws low from to = absurd (omega arith)
least (suc n) a w ws low from to = elim (cases_eq w.place a) [
  | inl here ↦ rw (eq-eqb w.place a here) (ap (λ vs. w ∷ (filter (at_place a) ws ++ vs)) (behind n (a + 1) w ws (omega arith)))
  | inr later ↦
      let none = none_at a ws (each-weaker (λ v. w.place ≤ v.place) (λ v. a < v.place) (λ v order. omega arith) ws low) in
      rw (ne_eqb w.place a later, none) (least n (a + 1) w ws low (omega arith) (omega arith))
]

nothing : (n a : ℕ) → flat_map (λ p. filter (at_place p) []) (range_with_len a n) ≡ []
nothing zero a = refl
nothing (suc n) a = nothing n (a + 1)

all_rising : (n : ℕ) (ws : List EntryWord) → IsRising ws → Each (λ w. w.place < n) ws → flat_map (λ p. filter (at_place p) ws) (range_with_len 0 n) ≡ ws
all_rising n [] order below = nothing n 0
all_rising n (w ∷ ws) order below =
    least n 0 w ws order.0 (omega arith) (let low = below.0 in omega arith) ∙ ap (λ vs. w ∷ vs) (all_rising n ws order.1 below.1)

tied : (p : ℕ) (w : EntryWord) → ties (λ (x y : EntryWord). is_lt (nat_cmp x.place y.place)) (record { place = p; section = 0; index = 0 }) w ≡ (w.place == p)
tied p w = grind (arith, common_steps)

same_at : (ws vs : List EntryWord) → IsStableByKey (λ w. w.place) nat_cmp ws vs → (p : ℕ) → filter (at_place p) vs ≡ filter (at_place p) ws
same_at ws vs stable p =
    (λ i. filter (λ w. sym (tied p w) i) vs) ∙ stable (record { place = p; section = 0; index = 0 }) ∙ (λ i. filter (λ w. tied p w i) ws)

-- what a stable sort by number leaves
pub sorted_is : (ws vs : List EntryWord) (n : ℕ) → IsPermutation ws vs → IsNonDecreasingBy (λ w. w.place) vs → IsStableByKey (λ w. w.place) nat_cmp ws vs
    → Each (λ w. w.place < n) ws → vs ≡ by_place n ws
unfolding by_place
sorted_is ws vs n moved order stable below =
    let all = recursion_from_All (λ w. w.place < n) vs (All-permutation (λ w. w.place < n) ws vs moved (All-from_recursion (λ w. w.place < n) ws below)) in
    sym (all_rising n vs (rising vs order) all)
    ∙ flat_same (λ p. filter (at_place p) vs) (λ p. filter (at_place p) ws) (range_with_len 0 n)
    (each-range (λ p. filter (at_place p) vs ≡ filter (at_place p) ws) 0 n (λ p low high. same_at ws vs stable p))
