-- Laws of what was noted first at an address.
use Rattle.std.proofs.Common.{◌≡◌, ℕ, zero, suc, ◌+◌, ◌-◌, ◌<◌, ◌≤◌, ◌==◌, inl, inr, Bool, true, false, List, [], ◌∷◌, ◌++◌, take, drop, length, filter, Option, Some, None, if◌then◌else◌, sym, ◌∙◌, ap, refl, arith, slice_index_or, length-take, length-drop}
use Rattle.std.specs.Ordering.{nat_cmp, is_lt, is_le, is_some_and}
use Rattle.std.specs.Option.{option_or}
use Rattle.std.specs.List.{IsAllAdjacentAnswer}
use Rattle.std.specs.List.Sorted.{IsNonDecreasingBy, IsStableByKey, ties}
use Rattle.std.proofs.lemmas.List.{get_or-take, get_or-drop}
use Rattle.std.proofs.lemmas.List.Sorted.{IsNonDecreasingBy-from_all_adjacent, IsNonDecreasingBy-take, IsNonDecreasingBy-drop}
use Rattle.std.proofs.lemmas.Map.Keys.{le_from_is_le}
use Rattle.std.proofs.lemmas.Bool.{cases_lt, eqb-false, ne_eqb}
use Rattle.std.proofs.lemmas.Grind.{common_steps}
use Rattle.psabi_relocs.specs.Firsts.{first_at, head_at, IsAround}

-- one more note
pub first_more : {X : Type 0} (ns : List (ℕ × X)) (more : ℕ × X) (q : ℕ) → first_at (ns ++ more ∷ []) q ≡ option_or (first_at ns q) (if more.0 == q then Some more.1 else None)
first_more [] more q = refl
first_more {X} (n ∷ ns) more q = by (n.0 == q) (first_more ns more q)
  where
    rest : Option X
    rest = if more.0 == q then Some more.1 else None

    by : (b : Bool) → first_at (ns ++ more ∷ []) q ≡ option_or (first_at ns q) rest
        → (if b then Some n.1 else first_at (ns ++ more ∷ []) q) ≡ option_or (if b then Some n.1 else first_at ns q) rest
    by true step = refl
    by false step = step

-- the notes at the address alone
first_filter : {X : Type 0} (t : ℕ × X → Bool) (q : ℕ) → ((n : ℕ × X) → t n ≡ (n.0 == q)) → (ns : List (ℕ × X)) → first_at (filter t ns) q ≡ first_at ns q
first_filter t q is [] = refl
first_filter t q is (n ∷ ns) = by (t n) (n.0 == q) refl (is n) refl (first_filter t q is ns)
  where
    by : (b c : Bool) → t n ≡ b → t n ≡ c → (n.0 == q) ≡ c → first_at (filter t ns) q ≡ first_at ns q → first_at (filter t (n ∷ ns)) q ≡ first_at (n ∷ ns) q
    by true true passes same at rest = rw (passes, at) refl
    by false false passes same at rest = rw (passes, at) rest
    by true false passes same at rest = absurd cc
    by false true passes same at rest = absurd cc

ties_at : {X : Type 0} (q : ℕ) (x : X) (n : ℕ × X) → ties (λ x y. is_lt (nat_cmp x.0 y.0)) (q, x) n ≡ (n.0 == q)
ties_at q x n = grind (arith, common_steps)

first_tied : {X : Type 0} (ns ms : List (ℕ × X)) → IsStableByKey (λ n. n.0) nat_cmp ns ms → X → (q : ℕ) → first_at ms q ≡ first_at ns q
first_tied {X} ns ms stable x q =
    let test = ties (λ (x y : ℕ × X). is_lt (nat_cmp x.0 y.0)) (q, x) in
    sym (first_filter test q (ties_at q x) ms) ∙ ap (λ ks. first_at ks q) (stable (q, x)) ∙ first_filter test q (ties_at q x) ns

-- a stable sort by address changes nothing
pub first_stable : {X : Type 0} (ns ms : List (ℕ × X)) → IsStableByKey (λ n. n.0) nat_cmp ns ms → (q : ℕ) → first_at ms q ≡ first_at ns q
first_stable [] [] stable q = refl
first_stable [] (m ∷ ms) stable q = first_tied [] (m ∷ ms) stable m.1 q
first_stable (n ∷ ns) ms stable q = first_tied (n ∷ ns) ms stable n.1 q

-- no note is at the address
first_none : {X : Type 0} (ns : List (ℕ × X)) (q : ℕ) → ((k : ℕ) (d : ℕ × X) → k < length ns → (slice_index_or ns k d).0 == q ≡ false) → first_at ns q ≡ None
first_none [] q none = refl
first_none (n ∷ ns) q none = rw (none 0 n (omega arith)) (first_none ns q (λ k d h. none (suc k) d (omega arith)))

-- a search in notes whose addresses ascend: those before i are below the address, and the others aren't
pub search_first : {X : Type 0} (ns : List (ℕ × X)) (i q : ℕ) → IsNonDecreasingBy (λ n. n.0) ns
    → ((k : ℕ) (d : ℕ × X) → k < i → k < length ns → (slice_index_or ns k d).0 < q)
    → ((k : ℕ) (d : ℕ × X) → i ≤ k → k < length ns → q ≤ (slice_index_or ns k d).0)
    → head_at (drop i ns) q ≡ first_at ns q
search_first [] zero q ascend below above = refl
search_first [] (suc i) q ascend below above = refl
search_first (n ∷ ns) zero q ascend below above = by (n.0 == q) refl
  where
    by : (b : Bool) → (n.0 == q) ≡ b → head_at (n ∷ ns) q ≡ first_at (n ∷ ns) q
    by true at = rw at refl
    by false at =
        let apart = eqb-false n.0 q at in
        let least = above 0 n (omega arith) (omega arith) in
        rw at (sym (first_none ns q (λ k d h. ne_eqb _ _ (let later = ascend 0 (suc k) d (omega arith) (omega arith) in λ same. apart (omega arith)))))
search_first (n ∷ ns) (suc i) q ascend below above =
    let first = below 0 n (omega arith) (omega arith) in
    rw (ne_eqb n.0 q (λ same. absurd (omega arith)))
    (search_first ns i q (λ j k d h in_list. ascend (suc j) (suc k) d (omega arith) (omega arith))
    (λ k d h in_list. below (suc k) d (omega arith) (omega arith))
    (λ k d h in_list. above (suc k) d (omega arith) (omega arith)))

-- what the test of two neighbours each says
pub ascend_where : {X : Type 0} (ns : List (ℕ × X)) (r : Bool) → IsAllAdjacentAnswer (λ x y b. b ≡ is_some_and is_le (Some (nat_cmp x.0 y.0))) ns r → r ≡ true
    → IsNonDecreasingBy (λ n. n.0) ns
ascend_where ns true all is = IsNonDecreasingBy-from_all_adjacent (λ n. n.0) ns (λ k d l. le_from_is_le _ _ (sym (all k d l)))
ascend_where ns false all is = absurd cc

-- ---- a search among some of the notes

-- notes below the address say nothing of it
first_behind : {X : Type 0} (ns : List (ℕ × X)) (i q : ℕ) → ((k : ℕ) (d : ℕ × X) → k < i → k < length ns → (slice_index_or ns k d).0 < q) → first_at (drop i ns) q ≡ first_at ns q
first_behind [] zero q below = refl
first_behind [] (suc i) q below = refl
first_behind (n ∷ ns) zero q below = refl
first_behind (n ∷ ns) (suc i) q below =
    let first = below 0 n (omega arith) (omega arith) in
    rw (ne_eqb n.0 q (λ same. absurd (omega arith)))
    (first_behind ns i q (λ k d h in_list. below (suc k) d (omega arith) (omega arith)))

-- the notes from i up to j
abbrev pub between : {X : Type 0} → List (ℕ × X) → ℕ → ℕ → List (ℕ × X)
between ns i j = take (j - i) (drop i ns)

module _ {X : Type 0} (ns : List (ℕ × X)) (i j q : ℕ) (ascend : IsNonDecreasingBy (λ n. n.0) ns) (around : IsAround ns i j q) where
  all_before : (k : ℕ) (d : ℕ × X) → k < i → k < length ns → (slice_index_or ns k d).0 < q
  all_before k d low in_list =
      let order = around.order in
      let in_notes = around.in_list in
      omega (arith, ascend k (i - 1) d (omega arith) (omega arith), around.before d (omega arith))

  all_behind : (k : ℕ) (d : ℕ × X) → j ≤ k → k < length ns → q ≤ (slice_index_or ns k d).0
  all_behind k d high in_list = omega (arith, ascend j k d high in_list, around.behind d (omega arith))

  -- a search in the notes between i and j: of these, those before n are below the address, and the others aren't
  pub search_near : (n : ℕ) → n ≤ length (between ns i j)
      → ((k : ℕ) (d : ℕ × X) → k < n → k < length (between ns i j) → (slice_index_or (between ns i j) k d).0 < q)
      → ((k : ℕ) (d : ℕ × X) → n ≤ k → k < length (between ns i j) → q ≤ (slice_index_or (between ns i j) k d).0)
      → head_at (drop n (drop i ns)) q ≡ first_at ns q
  search_near n few below above =
      let size = length-take (j - i) (drop i ns) in
      let rest = length-drop i ns in
      let order = around.order in
      let in_notes = around.in_list in
      search_first (drop i ns) n q (IsNonDecreasingBy-drop (λ n. n.0) i ns ascend)
      (λ k d h in_list. omega (arith, below k d h (omega arith), ap (λ (m : ℕ × X). m.0) (get_or-take (j - i) (drop i ns) k d (omega arith))))
      (λ k d h in_list. elim (cases_lt k (j - i)) [
        | inl near ↦ omega (arith, above k d h (omega arith), ap (λ (m : ℕ × X). m.0) (get_or-take (j - i) (drop i ns) k d (omega arith)))
        | inr far ↦ omega (arith, all_behind (i + k) d (omega arith) (omega arith), ap (λ (m : ℕ × X). m.0) (get_or-drop i ns k d))
      ])
      ∙ first_behind ns i q all_before

-- some of the notes ascend too
pub ascend_between : {X : Type 0} (ns : List (ℕ × X)) (i j : ℕ) → IsNonDecreasingBy (λ n. n.0) ns → IsNonDecreasingBy (λ n. n.0) (between ns i j)
ascend_between ns i j ascend = IsNonDecreasingBy-take (λ n. n.0) (j - i) (drop i ns) (IsNonDecreasingBy-drop (λ n. n.0) i ns ascend)
