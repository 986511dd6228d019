-- Ids and the pages at which their regions begin.
use Rattle.std.proofs.Common.{◌≡◌, ◌≢◌, ℕ, zero, suc, ◌+◌, ◌<◌, inl, inr, List, [], ◌∷◌, ◌++◌, length, get_or, arith, refl, ap, ◌∙◌, sym}
use Rattle.std.specs.List.{swap, range_with_len}
use Rattle.std.proofs.lemmas.Bool.{cases_eq, cases_lt}
use Rattle.std.proofs.lemmas.Option.{slice_get_within}
use Rattle.nommu_regions.specs.declared.region.Region.{Region}
use Rattle.nommu_regions.specs.Regions.{IsLive}
use Rattle.std.proofs.lemmas.List.{get_or_past}
use Rattle.std.proofs.lemmas.List.Edits.{swapped_from_swap, length-swap}
use Rattle.std.proofs.lemmas.List.FromFn.{length-range_with_len, get_or-range_with_len}
use Rattle.nommu_regions.specs.Ids.{AreInverse, AreIds}

-- ---- the numbers from 0 on

numbers_from : (a n : ℕ) → range_with_len a n ++ (a + n) ∷ [] ≡ range_with_len a (suc n)
numbers_from a zero = ap (λ (k : ℕ). k ∷ []) (omega arith)
numbers_from a (suc n) = ap (λ (xs : List ℕ). a ∷ xs) (ap (λ (k : ℕ). range_with_len (a + 1) n ++ k ∷ []) (omega arith) ∙ numbers_from (a + 1) n)

pub numbers_more : (n : ℕ) → range_with_len 0 n ++ n ∷ [] ≡ range_with_len 0 (n + 1)
numbers_more n =
    let front : n ≡ 0 + n = omega arith in
    let back : suc n ≡ n + 1 = omega arith in
    ap (λ (k : ℕ). range_with_len 0 n ++ k ∷ []) front ∙ (numbers_from 0 n ∙ ap (λ (k : ℕ). range_with_len 0 k) back)

pub inverse_first : (n : ℕ) → AreInverse (range_with_len 0 n) (range_with_len 0 n) n
inverse_first n = record {
  ids_len = length-range_with_len 0 n;
  starts_len = length-range_with_len 0 n;
  id = λ page less. omega (arith, get_or-range_with_len 0 n page n less, less);
  start = λ id less. omega (arith, get_or-range_with_len 0 n id n less, less);
  back = there;
  forth = there;
}
  where
    there : (k : ℕ) → k < n → get_or (range_with_len 0 n) (get_or (range_with_len 0 n) k n) n ≡ k
    there k less =
        let one : get_or (range_with_len 0 n) k n ≡ k = omega (arith, get_or-range_with_len 0 n k n less) in
        rw (one, one) refl

-- ---- what an id leads to

pub id_within : (rs : List Region) (ids starts : List ℕ) (id : ℕ) → AreInverse ids starts (length rs) → IsLive rs (get_or starts id (length rs)) → id < length starts
id_within rs ids starts id is live = elim (cases_lt id (length starts)) [
  | inl less ↦ less
  | inr past ↦ (let far = get_or_past starts id (length rs) past in absurd (omega (arith, far, slice_get_within rs (get_or starts id (length rs)) live.region live.there)))
]

pub start_within : (rs : List Region) (first : ℕ) → IsLive rs first → first < length rs
start_within rs first live = slice_get_within rs first live.region live.there

pub are_ids : (rs : List Region) (ids starts : List ℕ) → AreInverse ids starts (length rs) → AreIds (record { regions = rs; starts = starts })
are_ids rs ids starts is = record {
  len = is.starts_len;
  inside = λ id less. is.start id (omega (arith, is.starts_len));
  one = λ i j i_less j_less same.
      sym (is.forth i (omega (arith, is.starts_len))) ∙ (ap (λ k. get_or ids k (length rs)) same ∙ is.forth j (omega (arith, is.starts_len)));
}

-- two ids don't lead to one page
pub apart : (rs : List Region) (ids starts : List ℕ) (i j : ℕ) → AreInverse ids starts (length rs) → IsLive rs (get_or starts i (length rs)) → IsLive rs (get_or starts j (length rs)) →
    j ≢ i → get_or starts j (length rs) ≢ get_or starts i (length rs)
apart rs ids starts i j is live_i live_j other same =
    other (sym (is.forth j (omega (arith, id_within rs ids starts j is live_j, is.starts_len))) ∙
    (ap (λ k. get_or ids k (length rs)) same ∙ is.forth i (omega (arith, id_within rs ids starts i is live_i, is.starts_len))))

-- ---- two ids that change their pages

pub inverse_swapped : (ids starts : List ℕ) (n one other a b : ℕ) → AreInverse ids starts n → one < n → other < n → a ≡ get_or starts one n → b ≡ get_or starts other n →
    AreInverse (swap ids a b) (swap starts one other) n
inverse_swapped ids starts n one other a b is first second at_one at_other = record {
  ids_len = length-swap ids a b ∙ is.ids_len;
  starts_len = length-swap starts one other ∙ is.starts_len;
  id = new_id;
  start = new_start;
  back = new_back;
  forth = new_forth;
}
  where
    a_less : a < n
    a_less = omega (arith, is.start one first, at_one)

    b_less : b < n
    b_less = omega (arith, is.start other second, at_other)

    s_one : get_or (swap starts one other) one n ≡ get_or starts other n
    s_one = (swapped_from_swap starts (swap starts one other) one other n (omega (arith, is.starts_len)) (omega (arith, is.starts_len)) refl).0

    s_other : get_or (swap starts one other) other n ≡ get_or starts one n
    s_other = (swapped_from_swap starts (swap starts one other) one other n (omega (arith, is.starts_len)) (omega (arith, is.starts_len)) refl).1

    s_else : (m : ℕ) → m ≢ one → m ≢ other → get_or (swap starts one other) m n ≡ get_or starts m n
    s_else = (swapped_from_swap starts (swap starts one other) one other n (omega (arith, is.starts_len)) (omega (arith, is.starts_len)) refl).2

    i_a : get_or (swap ids a b) a n ≡ get_or ids b n
    i_a = (swapped_from_swap ids (swap ids a b) a b n (omega (arith, is.ids_len, a_less)) (omega (arith, is.ids_len, b_less)) refl).0

    i_b : get_or (swap ids a b) b n ≡ get_or ids a n
    i_b = (swapped_from_swap ids (swap ids a b) a b n (omega (arith, is.ids_len, a_less)) (omega (arith, is.ids_len, b_less)) refl).1

    i_else : (m : ℕ) → m ≢ a → m ≢ b → get_or (swap ids a b) m n ≡ get_or ids m n
    i_else = (swapped_from_swap ids (swap ids a b) a b n (omega (arith, is.ids_len, a_less)) (omega (arith, is.ids_len, b_less)) refl).2

    id_a : get_or ids a n ≡ one
    id_a = ap (λ k. get_or ids k n) at_one ∙ is.forth one first

    id_b : get_or ids b n ≡ other
    id_b = ap (λ k. get_or ids k n) at_other ∙ is.forth other second

    new_id : (page : ℕ) → page < n → get_or (swap ids a b) page n < n
    new_id page less = elim (cases_eq page a) [
      | inl here ↦ rw (here, i_a, id_b) second
      | inr x ↦ elim (cases_eq page b) [
        | inl here ↦ rw (here, i_b, id_a) first
        | inr y ↦ rw (i_else page x y) (is.id page less)
      ]
    ]

    new_start : (id : ℕ) → id < n → get_or (swap starts one other) id n < n
    new_start id less = elim (cases_eq id one) [
      | inl here ↦ rw (here, s_one) (is.start other second)
      | inr x ↦ elim (cases_eq id other) [
        | inl here ↦ rw (here, s_other) (is.start one first)
        | inr y ↦ rw (s_else id x y) (is.start id less)
      ]
    ]

    new_back : (page : ℕ) → page < n → get_or (swap starts one other) (get_or (swap ids a b) page n) n ≡ page
    new_back page less = elim (cases_eq page a) [
      | inl here ↦ rw (here, i_a, id_b, s_other) (sym at_one)
      | inr x ↦ elim (cases_eq page b) [
        | inl here ↦ rw (here, i_b, id_a, s_one) (sym at_other)
        | inr y ↦ rw (i_else page x y) (s_else (get_or ids page n)
            (λ e. x (sym (is.back page less) ∙ (ap (λ k. get_or starts k n) e ∙ sym at_one)))
            (λ e. y (sym (is.back page less) ∙ (ap (λ k. get_or starts k n) e ∙ sym at_other))) ∙ is.back page less)
      ]
    ]

    new_forth : (id : ℕ) → id < n → get_or (swap ids a b) (get_or (swap starts one other) id n) n ≡ id
    new_forth id less = elim (cases_eq id one) [
      | inl here ↦ rw (here, s_one, ← at_other, i_b) id_a
      | inr x ↦ elim (cases_eq id other) [
        | inl here ↦ rw (here, s_other, ← at_one, i_a) id_b
        | inr y ↦ rw (s_else id x y) (i_else (get_or starts id n)
            (λ e. x (sym (is.forth id less) ∙ (ap (λ k. get_or ids k n) e ∙ id_a)))
            (λ e. y (sym (is.forth id less) ∙ (ap (λ k. get_or ids k n) e ∙ id_b))) ∙ is.forth id less)
      ]
    ]
