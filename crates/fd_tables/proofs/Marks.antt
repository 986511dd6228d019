-- The numbers that are marked, and the pipes that aren't.
use Rattle.std.proofs.Common.{◌≡◌, ◌≢◌, ℕ, zero, suc, ◌+◌, ◌<◌, ◌≤◌, Bool, true, false, not, cond, inl, inr, List, [], ◌∷◌, length, get_or, set, Option, Some, None, refl, sym, ap, subst, ◌∙◌, arith}
use Rattle.std.specs.Prelude.{◌==◌, ◌||◌, nat_lt, nat_le, filter, count_by, position, unwrap_or}
use Rattle.std.specs.List.{list_any, insert, position_or_len}
use Rattle.std.proofs.lemmas.Bool.Decides.{nat_tests}
use Rattle.std.proofs.lemmas.List.Sums.{count_by-le-length, sum_by-cons}
use Rattle.vfork_exec.specs.Keyed.{find, without, place_of, Falls}
use Rattle.vfork_exec.proofs.Keyed.{decide, eqb_other, eqb_same, eqb_is, find_head, is_there}
use Rattle.vfork_exec.proofs.Places.{found}
use Rattle.fd_tables.specs.Files.{Pipe}
use Rattle.fd_tables.specs.Pipes.{pipe_id, with_number}
use Rattle.fd_tables.specs.Inside.{Rises, unmarked}

-- ---- a number among others

abbrev is_in : ℕ → List ℕ → Bool
is_in k xs = list_any (λ x. x == k) xs

or_again : (a c : Bool) → (a || (a || c)) ≡ (a || c)
or_again true c = refl
or_again false c = refl

or_swap : (a b c : Bool) → (a || (b || c)) ≡ (b || (a || c))
or_swap true true c = refl
or_swap true false c = refl
or_swap false true c = refl
or_swap false false c = refl

with_head : (id x : ℕ) (xs : List ℕ) (a b : Bool) → (x == id) ≡ a → nat_lt x id ≡ b → with_number id (x ∷ xs) ≡ cond a (x ∷ xs) (cond b (x ∷ with_number id xs) (id ∷ x ∷ xs))
with_head id x xs a b e l =
    ap (λ t. cond t (x ∷ xs) (cond (nat_lt x id) (x ∷ with_number id xs) (id ∷ x ∷ xs))) e
    ∙ ap (λ t. cond a (x ∷ xs) (cond t (x ∷ with_number id xs) (id ∷ x ∷ xs))) l

in_with : (id k : ℕ) (xs : List ℕ) → is_in k (with_number id xs) ≡ ((id == k) || is_in k xs)
in_with id k [] = refl
in_with id k (x ∷ xs) = elim (decide (x == id)) [
  | inl is ↦
      ap (is_in k) (with_head id x xs true (nat_lt x id) is refl)
      ∙ sym (or_again (x == k) (is_in k xs))
      ∙ ap (λ n. (n == k) || ((x == k) || is_in k xs)) (eqb_is x id is)
  | inr is ↦ elim (decide (nat_lt x id)) [
    | inl less ↦
        ap (is_in k) (with_head id x xs false true is less)
        ∙ ap (λ t. (x == k) || t) (in_with id k xs)
        ∙ or_swap (x == k) (id == k) (is_in k xs)
    | inr more ↦ ap (is_in k) (with_head id x xs false false is more)
  ]
]

below_le : (m n : ℕ) → nat_le m n ≡ false → n < m
below_le m n h = grind (arith, nat_tests)

le_is : (m n : ℕ) → nat_le m n ≡ true → m ≤ n
le_is m n h = grind (arith, nat_tests)

lt_yes : (m n : ℕ) → m < n → nat_lt m n ≡ true
lt_yes m n h = grind (arith, nat_tests)

lt_no : (m n : ℕ) → n ≤ m → nat_lt m n ≡ false
lt_no m n h = grind (arith, nat_tests)

-- ---- the place of a number

module _ (id : ℕ) where
  abbrev pub place_in : List ℕ → ℕ
  place_in xs = position_or_len (λ x. nat_le id x) xs

  place_head : (x : ℕ) (xs : List ℕ) (b : Bool) → nat_le id x ≡ b → place_in (x ∷ xs) ≡ cond b 0 (suc (place_in xs))
  place_head x xs true is = ap (λ t. cond (not t) (1 + place_in xs) 0) is
  place_head x xs false is = ap (λ t. cond (not t) (1 + place_in xs) 0) is ∙ omega arith

  place_most : (xs : List ℕ) → place_in xs ≤ length xs
  place_most [] = omega arith
  place_most (x ∷ xs) = elim (decide (nat_le id x)) [
    | inl le ↦ omega (arith, place_head x xs true le)
    | inr gt ↦ omega (arith, place_head x xs false gt, place_most xs)
  ]

  -- the place that a search along the list gives
  pub place_is : (xs now : List ℕ) (number : Option ℕ) (at end : ℕ) → now ≡ xs → number ≡ position (λ x. nat_le id x) now → end ≡ length xs → at ≡ unwrap_or number end → at ≡ place_in xs
  place_is xs now number at end same is all place =
      let inside : at ≡ unwrap_or (position (λ x. nat_le id x) xs) (length xs) = place ∙ ap (λ (o : Option ℕ). unwrap_or o end) (is ∙ ap (position (λ x. nat_le id x)) same) ∙ ap (unwrap_or (position (λ x. nat_le id x) xs)) all in
      let test : Bool → ℕ = λ t. unwrap_or (cond t (Some (place_in xs)) None) (length xs) in
      elim (decide (nat_lt (place_in xs) (length xs))) [
        | inl less ↦ inside ∙ ap test less
        | inr more ↦
            let past : length xs ≤ place_in xs = grind (arith, nat_tests) in
            inside ∙ ap test more ∙ omega (arith, past, place_most xs)
      ]

  none_above : (least : ℕ) (xs : List ℕ) → Rises least xs → id < least → is_in id xs ≡ false
  none_above least [] r h = refl
  none_above least (x ∷ xs) r h =
      ap (λ t. t || is_in id xs) (eqb_other x id (omega (arith, r.0, h)))
      ∙ none_above (x + 1) xs r.1 (omega (arith, r.0, h))

  -- it is marked already
  pub there : (xs : List ℕ) (d : ℕ) → place_in xs < length xs → get_or xs (place_in xs) d ≡ id → with_number id xs ≡ xs
  there [] d inside is = absurd (omega (arith, inside))
  there (x ∷ xs) d inside is = elim (decide (nat_le id x)) [
    | inl le ↦
        let here : x ≡ id = sym (ap (λ n. get_or (x ∷ xs) n d) (place_head x xs true le)) ∙ is in
        with_head id x xs true (nat_lt x id) (eqb_same x id here) refl
    | inr gt ↦
        let less = below_le id x gt in
        let e = place_head x xs false gt in
        with_head id x xs false true (eqb_other x id (omega (arith, less))) (lt_yes x id less)
        ∙ ap (λ ys. x ∷ ys) (there xs d (omega (arith, inside, e)) (sym (ap (λ n. get_or (x ∷ xs) n d) e) ∙ is))
  ]

  -- or it is put there
  pub put_there : (xs : List ℕ) (d : ℕ) → (place_in xs < length xs → get_or xs (place_in xs) d ≢ id) → insert xs (place_in xs) id ≡ with_number id xs
  put_there [] d other = refl
  put_there (x ∷ xs) d other = elim (decide (nat_le id x)) [
    | inl le ↦
        let e = place_head x xs true le in
        let apart : x ≢ id = λ is. other (omega (arith, e)) (ap (λ n. get_or (x ∷ xs) n d) e ∙ is) in
        let more = le_is id x le in
        ap (λ n. insert (x ∷ xs) n id) e ∙ sym (with_head id x xs false false (eqb_other x id apart) (lt_no x id (omega (arith, more))))
    | inr gt ↦
        let less = below_le id x gt in
        let e = place_head x xs false gt in
        ap (λ n. insert (x ∷ xs) n id) e
        ∙ ap (λ ys. x ∷ ys) (put_there xs d (λ inside is. other (omega (arith, inside, e)) (ap (λ n. get_or (x ∷ xs) n d) e ∙ is)))
        ∙ sym (with_head id x xs false true (eqb_other x id (omega (arith, less))) (lt_yes x id less))
  ]

  pub not_there : (least : ℕ) (xs : List ℕ) (d : ℕ) → Rises least xs → (place_in xs < length xs → get_or xs (place_in xs) d ≢ id) → is_in id xs ≡ false
  not_there least [] d r other = refl
  not_there least (x ∷ xs) d r other = elim (decide (nat_le id x)) [
    | inl le ↦
        let e = place_head x xs true le in
        let apart : x ≢ id = λ is. other (omega (arith, e)) (ap (λ n. get_or (x ∷ xs) n d) e ∙ is) in
        let more = le_is id x le in
        ap (λ t. t || is_in id xs) (eqb_other x id apart) ∙ none_above (x + 1) xs r.1 (omega (arith, more, apart))
    | inr gt ↦
        let less = below_le id x gt in
        let e = place_head x xs false gt in
        ap (λ t. t || is_in id xs) (eqb_other x id (omega (arith, less)))
        ∙ not_there (x + 1) xs d r.1 (λ inside is. other (omega (arith, inside, e)) (ap (λ n. get_or (x ∷ xs) n d) e ∙ is))
  ]

  pub rises_with : (least : ℕ) (xs : List ℕ) → Rises least xs → least ≤ id → Rises least (with_number id xs)
  rises_with least [] r h = (h, tt)
  rises_with least (x ∷ xs) r h = elim (decide (x == id)) [
    | inl is ↦ subst (Rises least) (sym (with_head id x xs true (nat_lt x id) is refl)) r
    | inr is ↦ elim (decide (nat_lt x id)) [
      | inl less ↦
          let lt : x < id = grind (arith, nat_tests) in
          subst (Rises least) (sym (with_head id x xs false true is less)) (r.0, rises_with (x + 1) xs r.1 (omega (arith, lt)))
      | inr more ↦
          let gt : id < x = grind (arith, nat_tests) in
          subst (Rises least) (sym (with_head id x xs false false is more)) (h, (omega (arith, gt), r.1))
    ]
  ]

  pub length-with_number : (xs : List ℕ) → length (with_number id xs) ≤ length xs + 1
  length-with_number [] = omega arith
  length-with_number (x ∷ xs) = elim (decide (x == id)) [
    | inl is ↦ rw (with_head id x xs true (nat_lt x id) is refl) (omega arith)
    | inr is ↦ elim (decide (nat_lt x id)) [
      | inl less ↦ rw (with_head id x xs false true is less) (omega (arith, length-with_number xs))
      | inr more ↦ rw (with_head id x xs false false is more) (omega arith)
    ]
  ]

pub rises_less : (few least : ℕ) (xs : List ℕ) → few ≤ least → Rises least xs → Rises few xs
rises_less few least [] h r = tt
rises_less few least (x ∷ xs) h r = (omega (arith, r.0, h), r.1)

-- ---- how many pass a test

abbrev one : Bool → ℕ
one b = cond b 1 0

count_head : {A : Type 0} (t : A → Bool) (x : A) (xs : List A) (b : Bool) → t x ≡ b → count_by t (x ∷ xs) ≡ one b + count_by t xs
count_head t x xs b is = sum_by-cons (λ y. one (t y)) x xs ∙ ap (λ c. one c + count_by t xs) is

one_le : (a b : Bool) → (a ≡ true → b ≡ true) → one a ≤ one b
one_le true true h = omega arith
one_le true false h = absurd (let e = h refl in cc)
one_le false b h = omega arith

one_most : (b : Bool) → one b ≤ 1
one_most true = omega arith
one_most false = omega arith

count_le : {A : Type 0} (s t : A → Bool) → ((x : A) → s x ≡ true → t x ≡ true) → (xs : List A) → count_by s xs ≤ count_by t xs
count_le s t h [] = omega arith
count_le s t h (x ∷ xs) =
    omega (arith, count_head s x xs (s x) refl, count_head t x xs (t x) refl, one_le (s x) (t x) (h x), count_le s t h xs)

count_filter : {A : Type 0} (t q : A → Bool) (xs : List A) → count_by t (filter q xs) ≤ count_by t xs
count_filter t q [] = omega arith
count_filter t q (x ∷ xs) = elim (decide (q x)) [
  | inl is ↦
      rw (ap (λ b. cond b (x ∷ filter q xs) (filter q xs)) is)
      (omega (arith, count_head t x (filter q xs) (t x) refl, count_head t x xs (t x) refl, count_filter t q xs))
  | inr is ↦
      rw (ap (λ b. cond b (x ∷ filter q xs) (filter q xs)) is)
      (omega (arith, count_head t x xs (t x) refl, count_filter t q xs))
]

count_set : {A : Type 0} (t : A → Bool) (xs : List A) (i : ℕ) (y d : A) → i < length xs → t (get_or xs i d) ≡ t y → count_by t (set xs i y) ≡ count_by t xs
count_set t [] i y d inside same = absurd (omega (arith, inside))
count_set t (x ∷ xs) zero y d inside same = omega (arith, count_head t x xs (t y) same, count_head t y xs (t y) refl)
count_set t (x ∷ xs) (suc i) y d inside same =
    omega (arith, count_head t x xs (t x) refl, count_head t x (set xs i y) (t x) refl, count_set t xs i y d (omega (arith, inside)) same)

pub falls_set : {A : Type 0} (key : A → ℕ) (b : ℕ) (xs : List A) (i : ℕ) (y d : A) → i < length xs → key (get_or xs i d) ≡ key y → Falls key b xs → Falls key b (set xs i y)
falls_set key b [] i y d inside same f = absurd (omega (arith, inside))
falls_set key b (x ∷ xs) zero y d inside same f = subst (λ n. (n < b) × Falls key n xs) same f
falls_set key b (x ∷ xs) (suc i) y d inside same f = (f.0, falls_set key (key x) xs i y d (omega (arith, inside)) same f.1)

-- ---- pipes that aren't marked

abbrev unmarked_by : List ℕ → Pipe → Bool
unmarked_by xs p = not (is_in p.id xs)

not_false : (b : Bool) → not b ≡ true → b ≡ false
not_false true h = absurd cc
not_false false h = refl

or_second : (a b : Bool) → (a || b) ≡ false → b ≡ false
or_second true b h = absurd cc
or_second false b h = h

pub few_unmarked : (xs : List ℕ) (ps : List Pipe) → unmarked xs ps ≤ length ps
few_unmarked xs ps = count_by-le-length (unmarked_by xs) ps

with_less : (id : ℕ) (xs : List ℕ) (p : Pipe) → unmarked_by (with_number id xs) p ≡ true → unmarked_by xs p ≡ true
with_less id xs p h = ap not (or_second (id == p.id) (is_in p.id xs) (sym (in_with id p.id xs) ∙ not_false _ h))

-- the mark of one that is there makes one fewer
pub unmarked_put : (id : ℕ) (xs : List ℕ) (ps : List Pipe) (p : Pipe) → find pipe_id id ps ≡ Some p → is_in id xs ≡ false → unmarked (with_number id xs) ps + 1 ≤ unmarked xs ps
unfolding find
unmarked_put id xs [] p found new = absurd cc
unmarked_put id xs (q ∷ ps) p found new =
    let less = count_le (unmarked_by (with_number id xs)) (unmarked_by xs) (with_less id xs) ps in
    elim (decide (q.id == id)) [
      | inl here ↦
          let is : q.id ≡ id = eqb_is q.id id here in
          let marked : unmarked_by (with_number id xs) q ≡ false = ap not (in_with id q.id xs ∙ ap (λ t. t || is_in q.id xs) (eqb_same id q.id (sym is))) in
          let wasn't : unmarked_by xs q ≡ true = ap not (ap (λ n. is_in n xs) is ∙ new) in
          omega (arith, less, count_head (unmarked_by (with_number id xs)) q ps false marked, count_head (unmarked_by xs) q ps true wasn't)
      | inr apart ↦
          let later = unmarked_put id xs ps p (sym (find_head pipe_id id q ps false apart) ∙ found) new in
          omega (
            arith,
            later,
            one_le (unmarked_by (with_number id xs) q) (unmarked_by xs q) (with_less id xs q),
            count_head (unmarked_by (with_number id xs)) q ps (unmarked_by (with_number id xs) q) refl,
            count_head (unmarked_by xs) q ps (unmarked_by xs q) refl,
          )
    ]

beyond : (x b : ℕ) (xs : List ℕ) (ps : List Pipe) → Falls pipe_id b ps → b ≤ x → unmarked (x ∷ xs) ps ≡ unmarked xs ps
beyond x b xs [] f h = refl
beyond x b xs (p ∷ ps) f h =
    let same : unmarked_by (x ∷ xs) p ≡ unmarked_by xs p = ap (λ t. not (t || is_in p.id xs)) (eqb_other x p.id (omega (arith, f.0, h))) in
    omega (
      arith,
      beyond x p.id xs ps f.1 (omega (arith, f.0, h)),
      count_head (unmarked_by (x ∷ xs)) p ps (unmarked_by xs p) same,
      count_head (unmarked_by xs) p ps (unmarked_by xs p) refl,
    )

-- with the first mark one comes back at most
pub unmarked_next : (x b : ℕ) (xs : List ℕ) (ps : List Pipe) → Falls pipe_id b ps → unmarked xs ps ≤ unmarked (x ∷ xs) ps + 1
unmarked_next x b xs [] f = omega arith
unmarked_next x b xs (p ∷ ps) f = elim (decide (x == p.id)) [
  | inl here ↦
      let is : x ≡ p.id = eqb_is x p.id here in
      omega (
        arith,
        one_most (unmarked_by xs p),
        beyond x p.id xs ps f.1 (omega (arith, is)),
        count_head (unmarked_by (x ∷ xs)) p ps (unmarked_by (x ∷ xs) p) refl,
        count_head (unmarked_by xs) p ps (unmarked_by xs p) refl,
      )
  | inr apart ↦
      let same : unmarked_by (x ∷ xs) p ≡ unmarked_by xs p = ap (λ t. not (t || is_in p.id xs)) apart in
      omega (
        arith,
        unmarked_next x p.id xs ps f.1,
        count_head (unmarked_by (x ∷ xs)) p ps (unmarked_by xs p) same,
        count_head (unmarked_by xs) p ps (unmarked_by xs p) refl,
      )
]

-- a pipe that changes keeps its number
pub unmarked_set : (xs : List ℕ) (ps : List Pipe) (i : ℕ) (p d : Pipe) → i < length ps → (get_or ps i d).id ≡ p.id → unmarked xs (set ps i p) ≡ unmarked xs ps
unmarked_set xs ps i p d inside same = count_set (unmarked_by xs) ps i p d inside (ap (λ n. not (is_in n xs)) same)

pub unmarked_without : (id : ℕ) (xs : List ℕ) (ps : List Pipe) → unmarked xs (without pipe_id id ps) ≤ unmarked xs ps
unfolding without
unmarked_without id xs ps = count_filter (unmarked_by xs) (λ p. not (p.id == id)) ps

-- a pipe that is there has room for its mark
pub record HasMark (id room : ℕ) (xs : List ℕ) (ps : List Pipe) : Type 0 where
  pub below : length xs < room
  pub marks : length (with_number id xs) + unmarked (with_number id xs) ps ≤ room

pub has_mark : (id room : ℕ) (xs : List ℕ) (ps : List Pipe) (d : ℕ) → place_of pipe_id id ps < length ps → Rises 0 xs
    → (place_in id xs < length xs → get_or xs (place_in id xs) d ≢ id) → length xs + unmarked xs ps ≤ room → HasMark id room xs ps
has_mark id room xs ps d inside r other le =
    let p = found pipe_id id ps (sym (is_there pipe_id id ps) ∙ lt_yes (place_of pipe_id id ps) (length ps) inside) in
    let fewer = unmarked_put id xs ps p.0 p.1 (not_there id 0 xs d r other) in
    record { below = omega (arith, fewer, le); marks = omega (arith, fewer, le, length-with_number id xs) }
