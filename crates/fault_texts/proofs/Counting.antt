-- Subjects each once, and how often they are among others.
use Rattle.std.proofs.Common.{◌≡◌, ◌∙◌, ℕ, zero, suc, ◌+◌, ◌-◌, ◌<◌, ◌≤◌, ◌==◌, nat_lt, nat_le, inl, inr, Bool, true, false, not, ◌||◌, List, [], ◌∷◌, ◌++◌, map, filter, fold, length, count_by, slice_index_or, Option, Some, None, if◌then◌else◌, refl, sym, ap, arith, take, length-take}
use Rattle.std.specs.List.{AllByRecursion as Each, list_any}
use Rattle.std.specs.List.Sorted.{IsNonDecreasingBy, IsStableByKey, ties}
use Rattle.std.specs.Option.{option_or, is_some}
use Rattle.std.specs.Ordering.{nat_cmp, is_lt}
use Rattle.std.proofs.lemmas.Bool.{cases_eq, cases_lt, eq-eqb, ne_eqb, lt-ltb, le-ltb, le-leb, lt-leb}
use Rattle.std.proofs.lemmas.Grind.{common_steps}
use Rattle.std.proofs.lemmas.List.{map-append, get_or-take, get_or_default, take_more}
use Rattle.std.proofs.lemmas.List.Sums.{fold-append, length-filter}
use Rattle.fault_texts.specs.declared.counts.Subject.{Subject}
use Rattle.fault_texts.specs.declared.counts.Count.{Count}
use Rattle.fault_texts.specs.Counts.{order_of, with_subject, each_once, count_in, counts_before}

each_weaker : (P Q : Subject → Type 0) → ((s : Subject) → P s → Q s) → (ss : List Subject) → Each P ss → Each Q ss
each_weaker P Q f [] all = tt
each_weaker P Q f (s ∷ ss) all = (f s all.0, each_weaker P Q f ss all.1)

-- ---- the first subject of a number

abbrev pub first_at : ℕ → List Subject → Option Subject
first_at n [] = None
first_at n (s ∷ ss) = if order_of s == n then Some s else first_at n ss

some_first : (n : ℕ) (s : Subject) (ss : List Subject) → order_of s ≡ n → first_at n (s ∷ ss) ≡ Some s
some_first n s ss here = rw (eq-eqb (order_of s) n here) refl

next_first : (n : ℕ) (s : Subject) (ss : List Subject) → (order_of s ≡ n → ⊥) → first_at n (s ∷ ss) ≡ first_at n ss
next_first n s ss other = rw (ne_eqb (order_of s) n other) refl

none_above : (n : ℕ) (ss : List Subject) → Each (λ s. n < order_of s) ss → first_at n ss ≡ None
none_above n [] above = refl
none_above n (s ∷ ss) above = next_first n s ss (λ same. let over = above.0 in absurd (omega arith)) ∙ none_above n ss above.1

pub none_below : (n : ℕ) (ss : List Subject) → Each (λ s. order_of s < n) ss → first_at n ss ≡ None
none_below n [] below = refl
none_below n (s ∷ ss) below = next_first n s ss (λ same. let under = below.0 in absurd (omega arith)) ∙ none_below n ss below.1

pub any_first : (n : ℕ) (ss : List Subject) → list_any (λ s. order_of s == n) ss ≡ is_some (first_at n ss)
any_first n [] = refl
any_first n (s ∷ ss) = by (order_of s == n) (any_first n ss)
  where
    by : (b : Bool) → list_any (λ s. order_of s == n) ss ≡ is_some (first_at n ss) → (b || list_any (λ s. order_of s == n) ss) ≡ is_some (if b then Some s else first_at n ss)
    by true rest = refl
    by false rest = rest

-- a subject at some index is found
pub found_at : (n : ℕ) (ss : List Subject) (k : ℕ) (d : Subject) → k < length ss → order_of (slice_index_or ss k d) ≡ n → list_any (λ s. order_of s == n) ss ≡ true
found_at n [] k d below same = absurd (omega arith)
found_at n (s ∷ ss) zero d below same = rw (eq-eqb (order_of s) n same) refl
found_at n (s ∷ ss) (suc k) d below same = rw (found_at n ss k d (omega arith) same) (by (order_of s == n))
  where
    by : (b : Bool) → (b || true) ≡ true
    by true = refl
    by false = refl

or_none : (o : Option Subject) → option_or o None ≡ o
or_none None = refl
or_none (Some s) = refl

or_assoc : (o p q : Option Subject) → option_or (option_or o p) q ≡ option_or o (option_or p q)
or_assoc None p q = refl
or_assoc (Some s) p q = refl

first_cons : (n : ℕ) (s : Subject) (ss : List Subject) → option_or (first_at n (s ∷ [])) (first_at n ss) ≡ first_at n (s ∷ ss)
first_cons n s ss = by (order_of s == n)
  where
    by : (b : Bool) → option_or (if b then Some s else None) (first_at n ss) ≡ (if b then Some s else first_at n ss)
    by true = refl
    by false = refl

-- ---- ascending subjects

abbrev pub IsAscending : List Subject → Type 0
IsAscending [] = Unit {0}
IsAscending (s ∷ ss) = Each (λ r. order_of s < order_of r) ss × IsAscending ss

-- where a subject goes among ascending ones
with_less : (r s : Subject) (rs : List Subject) → order_of s < order_of r → with_subject (r ∷ rs) s ≡ s ∷ r ∷ rs
with_less r s rs less = rw (lt-ltb (order_of s) (order_of r) less) refl

with_same : (r s : Subject) (rs : List Subject) → order_of s ≡ order_of r → with_subject (r ∷ rs) s ≡ r ∷ rs
with_same r s rs same = rw (le-ltb (order_of s) (order_of r) (omega arith), eq-eqb (order_of s) (order_of r) same) refl

with_more : (r s : Subject) (rs : List Subject) → order_of r < order_of s → with_subject (r ∷ rs) s ≡ r ∷ with_subject rs s
with_more r s rs more = rw (le-ltb (order_of s) (order_of r) (omega arith), ne_eqb (order_of s) (order_of r) (λ same. absurd (omega arith))) refl

each_with : (P : Subject → Type 0) (rs : List Subject) (s : Subject) → Each P rs → P s → Each P (with_subject rs s)
each_with P [] s all here = (here, tt)
each_with P (r ∷ rs) s all here = elim (cases_lt (order_of s) (order_of r)) [
  | inl less ↦ rw (with_less r s rs less) (here, all)
  | inr most ↦ elim (cases_eq (order_of s) (order_of r)) [
    | inl same ↦ rw (with_same r s rs same) all
    | inr other ↦ rw (with_more r s rs (omega arith)) (all.0, each_with P rs s all.1 here)
  ]
]

ascending_with : (rs : List Subject) (s : Subject) → IsAscending rs → IsAscending (with_subject rs s)
ascending_with [] s up = (tt, tt)
ascending_with (r ∷ rs) s up = elim (cases_lt (order_of s) (order_of r)) [
  | inl less ↦ rw (with_less r s rs less) ((less, each_weaker (λ t. order_of r < order_of t) (λ t. order_of s < order_of t) (λ t order. omega arith) rs up.0), up)
  | inr most ↦ elim (cases_eq (order_of s) (order_of r)) [
    | inl same ↦ rw (with_same r s rs same) up
    | inr other ↦ rw (with_more r s rs (omega arith)) (each_with (λ t. order_of r < order_of t) rs s up.0 (omega arith), ascending_with rs s up.1)
  ]
]

first_with : (n : ℕ) (rs : List Subject) (s : Subject) → IsAscending rs → first_at n (with_subject rs s) ≡ option_or (first_at n rs) (first_at n (s ∷ []))
first_with n [] s up = refl
first_with n (r ∷ rs) s up = elim (cases_lt (order_of s) (order_of r)) [
  | inl less ↦ elim (cases_eq (order_of s) n) [
    | inl here ↦
        let none = none_above n (r ∷ rs) ((let e : n < order_of r = omega arith in e), each_weaker (λ t. order_of r < order_of t) (λ t. n < order_of t) (λ t order. omega arith) rs up.0) in
        ap (first_at n) (with_less r s rs less) ∙ some_first n s (r ∷ rs) here ∙ sym (ap (λ o. option_or o (first_at n (s ∷ []))) none ∙ some_first n s [] here)
    | inr other ↦
        ap (first_at n) (with_less r s rs less) ∙ next_first n s (r ∷ rs) other
        ∙ sym (ap (λ o. option_or (first_at n (r ∷ rs)) o) (next_first n s [] other) ∙ or_none (first_at n (r ∷ rs)))
  ]
  | inr most ↦ elim (cases_eq (order_of s) (order_of r)) [
    | inl same ↦ ap (first_at n) (with_same r s rs same) ∙ elim (cases_eq (order_of r) n) [
      | inl here ↦ some_first n r rs here ∙ sym (ap (λ o. option_or o (first_at n (s ∷ []))) (some_first n r rs here))
      | inr other ↦ sym (ap (λ o. option_or (first_at n (r ∷ rs)) o) (next_first n s [] (λ at. other (sym same ∙ at))) ∙ or_none (first_at n (r ∷ rs)))
    ]
    | inr apart ↦ ap (first_at n) (with_more r s rs (omega arith)) ∙ elim (cases_eq (order_of r) n) [
      | inl here ↦ some_first n r (with_subject rs s) here ∙ sym (ap (λ o. option_or o (first_at n (s ∷ []))) (some_first n r rs here))
      | inr other ↦
          next_first n r (with_subject rs s) other ∙ first_with n rs s up.1
          ∙ sym (ap (λ o. option_or o (first_at n (s ∷ []))) (next_first n r rs other))
    ]
  ]
]

-- ---- each once

each_fold : (P : Subject → Type 0) (rs ss : List Subject) → Each P rs → Each P ss → Each P (fold with_subject rs ss)
each_fold P rs [] all more = all
each_fold P rs (s ∷ ss) all more = each_fold P (with_subject rs s) ss (each_with P rs s all more.0) more.1

pub each_each : (P : Subject → Type 0) (ss : List Subject) → Each P ss → Each P (each_once ss)
each_each P ss all = each_fold P [] ss tt all

ascending_fold : (rs ss : List Subject) → IsAscending rs → IsAscending (fold with_subject rs ss)
ascending_fold rs [] up = up
ascending_fold rs (s ∷ ss) up = ascending_fold (with_subject rs s) ss (ascending_with rs s up)

first_fold : (n : ℕ) (rs ss : List Subject) → IsAscending rs → first_at n (fold with_subject rs ss) ≡ option_or (first_at n rs) (first_at n ss)
first_fold n rs [] up = sym (or_none (first_at n rs))
first_fold n rs (s ∷ ss) up =
    first_fold n (with_subject rs s) ss (ascending_with rs s up)
    ∙ ap (λ o. option_or o (first_at n ss)) (first_with n rs s up)
    ∙ or_assoc (first_at n rs) (first_at n (s ∷ [])) (first_at n ss)
    ∙ ap (option_or (first_at n rs)) (first_cons n s ss)

once_ascends : (ss : List Subject) → IsAscending (each_once ss)
once_ascends ss = ascending_fold [] ss tt

first_once : (n : ℕ) (ss : List Subject) → first_at n (each_once ss) ≡ first_at n ss
first_once n ss = first_fold n [] ss tt

none_some : (s : Subject) → None ≡ Some s → ⊥
none_some s same = absurd cc

some_same : (r s : Subject) → Some r ≡ Some s → r ≡ s
some_same r s same = cc

-- ascending subjects are told by the first of each number
same_ascending : (rs ss : List Subject) → IsAscending rs → IsAscending ss → ((n : ℕ) → first_at n rs ≡ first_at n ss) → rs ≡ ss
same_ascending [] [] up on same = refl
same_ascending [] (s ∷ ss) up on same = absurd (none_some s (same (order_of s) ∙ some_first (order_of s) s ss refl))
same_ascending (r ∷ rs) [] up on same = absurd (none_some r (sym (same (order_of r)) ∙ some_first (order_of r) r rs refl))
same_ascending (r ∷ rs) (s ∷ ss) up on same = elim (cases_lt (order_of r) (order_of s)) [
  | inl less ↦
      let none = none_above (order_of r) (s ∷ ss) (less, each_weaker (λ t. order_of s < order_of t) (λ t. order_of r < order_of t) (λ t order. omega arith) ss on.0) in
      absurd (none_some r (sym none ∙ sym (same (order_of r)) ∙ some_first (order_of r) r rs refl))
  | inr most ↦ elim (cases_lt (order_of s) (order_of r)) [
    | inl more ↦
        let none = none_above (order_of s) (r ∷ rs) (more, each_weaker (λ t. order_of r < order_of t) (λ t. order_of s < order_of t) (λ t order. omega arith) rs up.0) in
        absurd (none_some s (sym none ∙ same (order_of s) ∙ some_first (order_of s) s ss refl))
    | inr least ↦
        let even : order_of s ≡ order_of r = omega arith in
        let here : r ≡ s = some_same r s (sym (some_first (order_of r) r rs refl) ∙ same (order_of r) ∙ some_first (order_of r) s ss even) in
        let rest : (n : ℕ) → first_at n rs ≡ first_at n ss = λ n. elim (cases_eq (order_of r) n) [
          | inl at ↦
              none_above n rs (each_weaker (λ t. order_of r < order_of t) (λ t. n < order_of t) (λ t order. omega arith) rs up.0)
              ∙ sym (none_above n ss (each_weaker (λ t. order_of s < order_of t) (λ t. n < order_of t) (λ t order. omega arith) ss on.0))
          | inr other ↦
              sym (next_first n r rs other) ∙ same n ∙ next_first n s ss (λ at. other (sym even ∙ at))
        ] in
        ap (λ t. t ∷ rs) here ∙ ap (λ ts. s ∷ ts) (same_ascending rs ss up.1 on.1 rest)
  ]
]

-- ---- one subject more

no_some : (s : Subject) → false ≡ is_some (Some s) → ⊥
no_some s same = absurd cc

-- one that is above all goes behind them, and one that is among them changes nothing
with_new : (rs : List Subject) (s : Subject) → Each (λ r. order_of r ≤ order_of s) rs → first_at (order_of s) rs ≡ None → with_subject rs s ≡ rs ++ s ∷ []
with_new [] s low none = refl
with_new (r ∷ rs) s low none = elim (cases_eq (order_of r) (order_of s)) [
  | inl same ↦ absurd (none_some r (sym none ∙ some_first (order_of s) r rs same))
  | inr other ↦
      let under = low.0 in
      with_more r s rs (omega arith) ∙ ap (λ ts. r ∷ ts) (with_new rs s low.1 (sym (next_first (order_of s) r rs other) ∙ none))
]

with_old : (rs : List Subject) (s t : Subject) → IsAscending rs → first_at (order_of s) rs ≡ Some t → with_subject rs s ≡ rs
with_old [] s t up some = absurd (none_some t some)
with_old (r ∷ rs) s t up some = elim (cases_lt (order_of s) (order_of r)) [
  | inl less ↦
      let none = none_above (order_of s) (r ∷ rs) (less, each_weaker (λ u. order_of r < order_of u) (λ u. order_of s < order_of u) (λ u order. omega arith) rs up.0) in
      absurd (none_some t (sym none ∙ some))
  | inr most ↦ elim (cases_eq (order_of s) (order_of r)) [
    | inl same ↦ with_same r s rs same
    | inr other ↦
        with_more r s rs (omega arith)
        ∙ ap (λ ts. r ∷ ts) (with_old rs s t up.1 (sym (next_first (order_of s) r rs (λ at. other (sym at))) ∙ some))
  ]
]

once_more : (ss : List Subject) (s : Subject) → each_once (ss ++ s ∷ []) ≡ with_subject (each_once ss) s
once_more ss s = fold-append with_subject [] ss (s ∷ [])

pub once_new : (ss : List Subject) (s : Subject) → Each (λ r. order_of r ≤ order_of s) ss → list_any (λ r. order_of r == order_of s) ss ≡ false
    → each_once (ss ++ s ∷ []) ≡ each_once ss ++ s ∷ []
once_new ss s low none =
    once_more ss s
    ∙ with_new (each_once ss) s (each_each (λ r. order_of r ≤ order_of s) ss low) (first_once (order_of s) ss ∙ by (first_at (order_of s) ss) (sym (any_first (order_of s) ss) ∙ none))
  where
    by : (o : Option Subject) → is_some o ≡ false → o ≡ None
    by None is = refl
    by (Some t) is = absurd cc

pub once_old : (ss : List Subject) (s : Subject) → list_any (λ r. order_of r == order_of s) ss ≡ true → each_once (ss ++ s ∷ []) ≡ each_once ss
once_old ss s some = once_more ss s ∙ by (first_at (order_of s) ss) refl (sym (any_first (order_of s) ss) ∙ some)
  where
    by : (o : Option Subject) → first_at (order_of s) ss ≡ o → is_some o ≡ true → with_subject (each_once ss) s ≡ each_once ss
    by None at is = absurd cc
    by (Some t) at is = with_old (each_once ss) s t (once_ascends ss) (first_once (order_of s) ss ∙ at)

-- ---- a sort that keeps the order of those of one number

abbrev first_of : List Subject → Option Subject
first_of [] = None
first_of (s ∷ ss) = Some s

first_filter : (n : ℕ) (ss : List Subject) → first_of (filter (λ s. order_of s == n) ss) ≡ first_at n ss
first_filter n [] = refl
first_filter n (s ∷ ss) = by (order_of s == n) (first_filter n ss)
  where
    by : (b : Bool) → first_of (filter (λ s. order_of s == n) ss) ≡ first_at n ss
        → first_of (if b then s ∷ filter (λ s. order_of s == n) ss else filter (λ s. order_of s == n) ss) ≡ (if b then Some s else first_at n ss)
    by true rest = refl
    by false rest = rest

tied : (n : ℕ) (s : Subject) → ties (λ (x y : Subject). is_lt (nat_cmp (order_of x) (order_of y))) (record { section = 0; table = 0; symbol = n }) s ≡ (order_of s == n)
tied n s = grind (arith, common_steps)

same_at : (ss rs : List Subject) → IsStableByKey order_of nat_cmp ss rs → (n : ℕ) → filter (λ s. order_of s == n) rs ≡ filter (λ s. order_of s == n) ss
same_at ss rs stable n =
    (λ i. filter (λ s. sym (tied n s) i) rs) ∙ stable (record { section = 0; table = 0; symbol = n }) ∙ (λ i. filter (λ s. tied n s i) ss)

same_count : (ss rs : List Subject) → IsStableByKey order_of nat_cmp ss rs → (s : Subject) → count_in rs s ≡ count_in ss s
same_count ss rs stable s =
    let p : Subject → Bool = λ r. order_of r == order_of s in
    let many : count_by p rs ≡ count_by p ss = sym (length-filter p rs) ∙ ap length (same_at ss rs stable (order_of s)) ∙ length-filter p ss in
    ap (λ n. record { subject = s; count = n }) many

map_same : (f g : Subject → Count) → ((s : Subject) → f s ≡ g s) → (ss : List Subject) → map f ss ≡ map g ss
map_same f g same [] = refl
map_same f g same (s ∷ ss) = rw (same s, map_same f g same ss) refl

pub sorted_once : (ss rs : List Subject) → IsStableByKey order_of nat_cmp ss rs → each_once rs ≡ each_once ss
sorted_once ss rs stable =
    same_ascending (each_once rs) (each_once ss) (once_ascends rs) (once_ascends ss)
    (λ n. first_once n rs ∙ sym (first_filter n rs) ∙ ap first_of (same_at ss rs stable n) ∙ first_filter n ss ∙ sym (first_once n ss))

pub sorted_counts : (ss rs : List Subject) → IsStableByKey order_of nat_cmp ss rs → map (count_in rs) (each_once rs) ≡ map (count_in ss) (each_once ss)
sorted_counts ss rs stable = map_same (count_in rs) (count_in ss) (same_count ss rs stable) (each_once rs) ∙ ap (map (count_in ss)) (sorted_once ss rs stable)

-- ---- how many there are of one number

pub prefix_count : (p : Subject → Bool) (ss : List Subject) (j : ℕ) → j ≤ length ss
    → ((k : ℕ) (d : Subject) → k < j → k < length ss → p (slice_index_or ss k d) ≡ true)
    → ((k : ℕ) (d : Subject) → j ≤ k → k < length ss → p (slice_index_or ss k d) ≡ false) → length (filter p ss) ≡ j
prefix_count p [] j few front back = omega arith
prefix_count p (s ∷ ss) zero few front back =
    rw (back 0 s (omega arith) (omega arith)) (prefix_count p ss zero (omega arith) (λ k d h l. absurd (omega arith)) (λ k d h l. back (suc k) d (omega arith) (omega arith)))
prefix_count p (s ∷ ss) (suc j) few front back =
    rw (front 0 s (omega arith) (omega arith))
    (ap suc (prefix_count p ss j (omega arith) (λ k d h l. front (suc k) d (omega arith) (omega arith)) (λ k d h l. back (suc k) d (omega arith) (omega arith))))

pub split_count : (n : ℕ) (ss : List Subject)
    → length (filter (λ s. nat_le (order_of s) n) ss) ≡ length (filter (λ s. nat_lt (order_of s) n) ss) + length (filter (λ s. order_of s == n) ss)
split_count n [] = refl
split_count n (s ∷ ss) = elim (cases_lt (order_of s) n) [
  | inl less ↦
      let rest = split_count n ss in
      rw (le-leb (order_of s) n (omega arith), lt-ltb (order_of s) n less, ne_eqb (order_of s) n (λ same. absurd (omega arith))) (omega arith)
  | inr most ↦ elim (cases_eq (order_of s) n) [
    | inl same ↦
        let rest = split_count n ss in
        rw (le-leb (order_of s) n (omega arith), le-ltb (order_of s) n (omega arith), eq-eqb (order_of s) n same) (omega arith)
    | inr other ↦
        rw (lt-leb (order_of s) n (omega arith), le-ltb (order_of s) n (omega arith), ne_eqb (order_of s) n other) (split_count n ss)
  ]
]

-- ---- along ascending subjects

each_get : (P : Subject → Type 0) (ss : List Subject) → ((k : ℕ) (d : Subject) → k < length ss → P (slice_index_or ss k d)) → Each P ss
each_get P [] holds = tt
each_get P (s ∷ ss) holds = (holds 0 s (omega arith), each_get P ss (λ k d below. holds (suc k) d (omega arith)))

get_each : (P : Subject → Type 0) (ss : List Subject) (k : ℕ) (d : Subject) → k < length ss → Each P ss → P (slice_index_or ss k d)
get_each P [] k d inside all = absurd (omega arith)
get_each P (s ∷ ss) zero d inside all = all.0
get_each P (s ∷ ss) (suc k) d inside all = get_each P ss k d (omega arith) all.1

-- whether a subject that isn't below others is among them is told by the last of these
pub new_last : (ss : List Subject) (s last : Subject) → IsNonDecreasingBy order_of ss → Each (λ r. order_of r ≤ order_of s) ss → 0 < length ss
    → last ≡ slice_index_or ss (length ss - 1) last → (order_of last == order_of s) ≡ list_any (λ r. order_of r == order_of s) ss
new_last ss s last up low some read = elim (cases_eq (order_of last) (order_of s)) [
  | inl same ↦ eq-eqb (order_of last) (order_of s) same ∙ sym (found_at (order_of s) ss (length ss - 1) last (omega arith) (ap order_of (sym read) ∙ same))
  | inr other ↦
      let most : order_of (slice_index_or ss (length ss - 1) last) ≤ order_of s = get_each (λ r. order_of r ≤ order_of s) ss (length ss - 1) last (omega arith) low in
      let here : order_of (slice_index_or ss (length ss - 1) last) ≡ order_of last = ap order_of (sym read) in
      let below = each_get (λ r. order_of r < order_of s) ss (λ k d inside.
      let step = up k (length ss - 1) d (omega arith) (omega arith) in
      let at = ap order_of (get_or_default ss (length ss - 1) d last (omega arith)) in
      omega arith) in
      ne_eqb (order_of last) (order_of s) other ∙ sym (any_first (order_of s) ss ∙ ap is_some (none_below (order_of s) ss below))
]

pub low_before : (ss : List Subject) (i : ℕ) (d : Subject) → IsNonDecreasingBy order_of ss → i < length ss → Each (λ r. order_of r ≤ order_of (slice_index_or ss i d)) (take i ss)
low_before ss i d up inside = each_get (λ r. order_of r ≤ order_of (slice_index_or ss i d)) (take i ss) (λ k e below.
    let size = length-take i ss in
    let before : k < i = omega arith in
    let step = up k i e (omega arith) inside in
    let here = ap order_of (get_or-take i ss k e before) in
    let at = ap order_of (get_or_default ss i e d inside) in
    omega arith)

pub count_new : (ss : List Subject) (i : ℕ) (d : Subject) → IsNonDecreasingBy order_of ss → i < length ss
    → list_any (λ r. order_of r == order_of (slice_index_or ss i d)) (take i ss) ≡ false → counts_before ss (i + 1) ≡ counts_before ss i ++ count_in ss (slice_index_or ss i d) ∷ []
count_new ss i d up inside none =
    ap (λ rs. map (count_in ss) (each_once rs)) (take_more ss i d inside)
    ∙ ap (map (count_in ss)) (once_new (take i ss) (slice_index_or ss i d) (low_before ss i d up inside) none)
    ∙ map-append (count_in ss) (each_once (take i ss)) (slice_index_or ss i d ∷ [])

pub count_old : (ss : List Subject) (i : ℕ) (d : Subject) → i < length ss
    → list_any (λ r. order_of r == order_of (slice_index_or ss i d)) (take i ss) ≡ true → counts_before ss (i + 1) ≡ counts_before ss i
count_old ss i d inside some =
    ap (λ rs. map (count_in ss) (each_once rs)) (take_more ss i d inside) ∙ ap (map (count_in ss)) (once_old (take i ss) (slice_index_or ss i d) some)

pub not_true : (b : Bool) → true ≡ not b → b ≡ false
not_true true is = absurd cc
not_true false is = refl

pub not_false : (b : Bool) → false ≡ not b → b ≡ true
not_false true is = refl
not_false false is = absurd cc
