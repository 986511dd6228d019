-- That no recorded word is met, where none would be as a plain word.
use Rattle.std.proofs.Common.{◌≡◌, ℕ, zero, suc, ◌+◌, ◌<◌, ◌≤◌, inl, inr, Bool, true, false, nat_lt, List, [], ◌∷◌, length, flat_map, filter, count_by, slice_index, None, refl, sym, ap, ◌∙◌, arith}
use Rattle.std.specs.List.{list_any, range_with_len, AllByRecursion as Each}
use Rattle.std.proofs.lemmas.Bool.{cases_Bool, cases_eq, cases_lt, or_cases, or_left, or_right, eq-eqb, lt-ltb, ltb-true, false≢true, false_from_ne_true}
use Rattle.std.proofs.lemmas.List.{get_or_past}
use Rattle.std.proofs.lemmas.List.Folds.{list_any-append}
use Rattle.flat_layout.specs.declared.layout.Layout.{Layout}
use Rattle.psabi_relocs.specs.declared.spans.Span.{Span}
use Rattle.elf2flt_tool.specs.declared.cover.Cover.{Cover}
use Rattle.elf2flt_tool.specs.declared.overlap.Recorded.{Recorded}
use Rattle.elf2flt_tool.specs.Cover.{begins, is_shared, begins_near, is_met, is_plain_met, counted, recorded_of, IsCover}
use Rattle.elf2flt_tool.specs.Walk.{all_of}
use Rattle.elf2flt_tool.proofs.Members.{each-append, each-weaker}
use Rattle.elf2flt_tool.proofs.Meeting.{any_count, some_two}

any_weaker : {X : Type 0} (p q : X → Bool) → ((x : X) → p x ≡ true → q x ≡ true) → (xs : List X) → list_any p xs ≡ true → list_any q xs ≡ true
any_weaker p q f [] is = absurd (false≢true is)
any_weaker p q f (x ∷ xs) is = elim (or_cases (p x) (list_any p xs) is) [
  | inl here ↦ or_left (q x) (list_any q xs) (f x here)
  | inr later ↦ or_right (q x) (list_any q xs) (any_weaker p q f xs later)
]

-- a slot that is met would be as a plain word too
met_plain : (c : Cover) (r : Recorded) → is_met c r ≡ true → is_plain_met c r.place ≡ true
unfolding is_met is_plain_met
met_plain c r met =
    let plain : Recorded = record { place = r.place; instruction = None } in
    let near = list_any (begins_near c.words.items r.place) (range_with_len 1 3) in
    elim (or_cases (list_any (λ b. is_shared c.still.items r (r.place + b)) (range_with_len 0 4)) near met) [
      | inl shared ↦
          or_left (list_any (λ b. is_shared c.still.items plain (r.place + b)) (range_with_len 0 4)) near
          (any_weaker (λ b. is_shared c.still.items r (r.place + b)) (λ b. is_shared c.still.items plain (r.place + b)) (λ b is. lt-ltb 0 _ (omega (arith, ltb-true _ _ is))) (range_with_len 0 4) shared)
      | inr close ↦ or_right (list_any (λ b. is_shared c.still.items plain (r.place + b)) (range_with_len 0 4)) near close
    ]

-- ---- each recorded word's place is counted

begins_own : (l : Layout) (ss : List Span) → Each (λ r. list_any (begins l r.place) ss ≡ true) (recorded_of l ss)
begins_own l [] = tt
begins_own l (own ∷ []) = elim (cases_Bool own.recorded) [
  | inl recorded ↦ rw (recorded, eq-eqb _ _ refl) (refl, tt)
  | inr still ↦ rw still tt
]
begins_own l (own ∷ slot ∷ rest) = elim (cases_Bool slot.recorded) [
  | inl recorded ↦ rw (recorded, eq-eqb _ _ refl) (or_right _ true refl, tt)
  | inr still ↦ rw still tt
]

begins_each : (l : Layout) (es : List (List Span)) → Each (λ r. list_any (begins l r.place) (all_of es) ≡ true) (flat_map (recorded_of l) es)
begins_each l [] = tt
begins_each l (ss ∷ es) =
    each-append (λ r. list_any (begins l r.place) (all_of (ss ∷ es)) ≡ true) (recorded_of l ss) (flat_map (recorded_of l) es)
    (each-weaker (λ r. list_any (begins l r.place) ss ≡ true) (λ r. list_any (begins l r.place) (all_of (ss ∷ es)) ≡ true)
    (λ r here. list_any-append (begins l r.place) ss (all_of es) ∙ or_left (list_any (begins l r.place) ss) (list_any (begins l r.place) (all_of es)) here) (recorded_of l ss) (begins_own l ss))
    (each-weaker (λ r. list_any (begins l r.place) (all_of es) ≡ true) (λ r. list_any (begins l r.place) (all_of (ss ∷ es)) ≡ true)
    (λ r later. list_any-append (begins l r.place) ss (all_of es) ∙ or_right (list_any (begins l r.place) ss) (list_any (begins l r.place) (all_of es)) later) (flat_map (recorded_of l) es) (begins_each l es))

counted_each : (l : Layout) (n : ℕ) (es : List (List Span)) (c : Cover) → IsCover l n (all_of es) c → Each (λ r. nat_lt 0 (slice_index c.words.items r.place) ≡ true) (flat_map (recorded_of l) es)
counted_each l n es c is =
    each-weaker (λ r. list_any (begins l r.place) (all_of es) ≡ true) (λ r. nat_lt 0 (slice_index c.words.items r.place) ≡ true)
    (λ r begun. ap (λ n. nat_lt 0 n) (is.words r.place) ∙ some_two (count_by (begins l r.place) (all_of es)) ∙ sym (any_count (begins l r.place) (all_of es)) ∙ begun)
    (flat_map (recorded_of l) es) (begins_each l es)

-- ---- where no counted place is met, no word is

-- a number with a count is one of the list's
counted_below : (counts : List ℕ) (q : ℕ) → 0 < slice_index counts q → q < length counts
counted_below counts q some = elim (cases_lt q (length counts)) [
  | inl below ↦ below
  | inr past ↦ absurd (omega (arith, some, get_or_past counts q 0 past))
]

any_passed : (test other : ℕ → Bool) (k : ℕ) (ks : List ℕ) → list_any other (filter test ks) ≡ true → list_any other (filter test (k ∷ ks)) ≡ true
any_passed test other k ks is = elim (cases_Bool (test k)) [
  | inl on ↦ rw on (or_right (other k) (list_any other (filter test ks)) is)
  | inr out ↦ rw out is
]

-- of the numbers of a range that pass a test one passes another too
any_filtered : (test other : ℕ → Bool) (a n k : ℕ) → a ≤ k → k < a + n → test k ≡ true → other k ≡ true → list_any other (filter test (range_with_len a n)) ≡ true
any_filtered test other a zero k from to on is = absurd (omega arith)
any_filtered test other a (suc n) k from to on is = elim (cases_eq a k) [
  | inl here ↦ rw (ap test here ∙ on) (or_left (other a) (list_any other (filter test (range_with_len (a + 1) n))) (ap other here ∙ is))
  | inr away ↦ any_passed test other a (range_with_len (a + 1) n) (any_filtered test other (a + 1) n k (omega arith) (omega arith) on is)
]

none_met_of : (c : Cover) (rs : List Recorded) → Each (λ r. nat_lt 0 (slice_index c.words.items r.place) ≡ true) rs → list_any (is_plain_met c) (counted c.words.items) ≡ false → filter (is_met c) rs ≡ []
none_met_of c [] each none = refl
none_met_of c (r ∷ rs) each none =
    let below = counted_below c.words.items r.place (ltb-true 0 _ each.0) in
    let unmet = false_from_ne_true (is_met c r)
    (λ met. false≢true (sym none ∙ any_filtered (λ q. nat_lt 0 (slice_index c.words.items q)) (is_plain_met c) 0 (length c.words.items) r.place (omega arith) (omega arith) each.0 (met_plain c r met))) in
    rw unmet (none_met_of c rs each.1 none)

pub none_met : (l : Layout) (n : ℕ) (es : List (List Span)) (c : Cover) → IsCover l n (all_of es) c → list_any (is_plain_met c) (counted c.words.items) ≡ false
    → filter (is_met c) (flat_map (recorded_of l) es) ≡ []
none_met l n es c is none = none_met_of c (flat_map (recorded_of l) es) (counted_each l n es c is) none
