-- That what is covered tells which recorded words meet the bytes of another entry.
use Rattle.std.proofs.Common.{◌≡◌, ℕ, zero, suc, ◌+◌, ◌-◌, ◌<◌, ◌≤◌, Bool, true, false, not, ◌&&◌, ◌||◌, nat_lt, nat_le, nat_eq, min, max, cond, inl, inr, List, [], ◌∷◌, ◌++◌, length, get_or, take, drop, map, flat_map, filter, count_by, slice_index, Option, Some, None, refl, sym, ap, ap₂, subst, ◌∙◌, arith, zero-add, add-zero, add-one}
use Rattle.std.specs.List.{list_any, range_with_len, slice_index_or, AllByRecursion as Each}
use Rattle.std.proofs.lemmas.Bool.{cases_Bool, lt-ltb, ne_eqb, leb-true}
use Rattle.std.proofs.lemmas.Bool.Decides.{nat_tests}
use Rattle.std.proofs.Math.Seq.{drop-cons}
use Rattle.std.proofs.lemmas.List.{take-append-drop, map-append}
use Rattle.std.proofs.lemmas.List.Elements.{filter-append}
use Rattle.std.proofs.lemmas.List.Concat.{flat_map-append}
use Rattle.std.proofs.lemmas.List.Folds.{list_any-append}
use Rattle.std.proofs.lemmas.List.Sums.{sum_by-append, sum_by-cons}
use Rattle.flat_layout.specs.declared.layout.Layout.{Layout}
use Rattle.flat_layout.specs.Layout.{off}
use Rattle.psabi_relocs.specs.declared.spans.Span.{Span}
use Rattle.elf2flt_tool.specs.Word.{meets, others, recorded_places, met_words}
use Rattle.elf2flt_tool.specs.declared.cover.Cover.{Cover}
use Rattle.elf2flt_tool.specs.declared.overlap.Recorded.{Recorded}
use Rattle.elf2flt_tool.specs.Cover.{IsWord, covers, begins, IsCover, own_cover, is_shared, begins_near, is_met, recorded_of}
use Rattle.elf2flt_tool.specs.Walk.{all_of}
use Rattle.elf2flt_tool.proofs.Members.{each-append}

-- tests of lists

or_swap : (a b c d : Bool) → ((a || b) || (c || d)) ≡ ((a || c) || (b || d))
or_swap a b c d = grind (arith, nat_tests)

any_or : {X : Type 0} (f g : X → Bool) (xs : List X) → list_any (λ x. f x || g x) xs ≡ (list_any f xs || list_any g xs)
any_or f g [] = refl
any_or f g (x ∷ xs) = ap (λ b. (f x || g x) || b) (any_or f g xs) ∙ or_swap (f x) (g x) (list_any f xs) (list_any g xs)

and_or : (a b c : Bool) → ((a && b) || (a && c)) ≡ (a && (b || c))
and_or true b c = refl
and_or false b c = refl

and_none : (a : Bool) → false ≡ (a && false)
and_none true = refl
and_none false = refl

any_and : {X : Type 0} (a : Bool) (f : X → Bool) (xs : List X) → list_any (λ x. a && f x) xs ≡ (a && list_any f xs)
any_and a f [] = and_none a
any_and a f (x ∷ xs) = ap (λ b. (a && f x) || b) (any_and a f xs) ∙ and_or a (f x) (list_any f xs)

any_none : {X : Type 0} (xs : List X) → false ≡ list_any (λ x. false) xs
any_none [] = refl
any_none (x ∷ xs) = any_none xs

any_swap : {X Y : Type 0} (t : Y → X → Bool) (ys : List Y) (xs : List X) → list_any (λ x. list_any (λ y. t y x) ys) xs ≡ list_any (λ y. list_any (t y) xs) ys
any_swap t ys [] = any_none ys
any_swap t ys (x ∷ xs) =
    ap (λ b. list_any (λ y. t y x) ys || b) (any_swap t ys xs) ∙ sym (any_or (λ y. t y x) (λ y. list_any (t y) xs) ys)

any_each : {X : Type 0} (f g : X → Bool) (xs : List X) → Each (λ x. f x ≡ g x) xs → list_any f xs ≡ list_any g xs
any_each f g [] same = refl
any_each f g (x ∷ xs) same = ap₂ (λ a b. a || b) same.0 (any_each f g xs same.1)

abbrev weight : {X : Type 0} → (X → Bool) → X → ℕ
weight f x = cond (f x) 1 0

count-cons : {X : Type 0} (f : X → Bool) (x : X) (xs : List X) → count_by f (x ∷ xs) ≡ cond (f x) 1 0 + count_by f xs
count-cons f x xs = sum_by-cons (weight f) x xs

any_weight : (b : Bool) (n : ℕ) → (b || nat_lt 0 n) ≡ nat_lt 0 (cond b 1 0 + n)
any_weight true n = sym (lt-ltb 0 (1 + n) (omega arith))
any_weight false n = ap (λ k. nat_lt 0 k) (sym (zero-add n))

pub any_count : {X : Type 0} (f : X → Bool) (xs : List X) → list_any f xs ≡ nat_lt 0 (count_by f xs)
any_count f [] = refl
any_count f (x ∷ xs) = ap (λ b. f x || b) (any_count f xs) ∙ any_weight (f x) (count_by f xs) ∙ ap (λ n. nat_lt 0 n) (sym (count-cons f x xs))

pub count-append : {X : Type 0} (f : X → Bool) (xs ys : List X) → count_by f (xs ++ ys) ≡ count_by f xs + count_by f ys
count-append f xs ys = sum_by-append (weight f) xs ys

-- one span

abbrev near_word : Layout → ℕ → ℕ → Span → Bool
near_word l p d s = begins l (p + d) s || nat_le d p && begins l (p - d) s

-- a word meets a recorded word where that begins near it, and not at the same place
near : (p q : ℕ) → (not (nat_eq q p) && nat_lt (max p q) (min (p + 4) (q + 4)))
    ≡ (nat_eq q (p + 1) || nat_le 1 p && nat_eq q (p - 1)) || ((nat_eq q (p + 2) || nat_le 2 p && nat_eq q (p - 2)) || ((nat_eq q (p + 3) || nat_le 3 p && nat_eq q (p - 3)) || false))
near p q = grind (arith, nat_tests)

-- a word meets other bytes where one of its own bytes is theirs
over : (p q n : ℕ) → nat_lt (max p q) (min (p + 4) (q + n))
    ≡ (nat_le q (p + 0) && nat_lt (p + 0) (q + n)) || ((nat_le q (p + 1) && nat_lt (p + 1) (q + n)) || ((nat_le q (p + 2) && nat_lt (p + 2) (q + n)) || ((nat_le q (p + 3) && nat_lt (p + 3) (q + n)) || false)))
over p q n = grind (arith, nat_tests)

or_none : (x a b c : Bool) → x ≡ (x || ((a && false) || ((b && false) || ((c && false) || false))))
or_none x a b c = grind (arith, nat_tests)

abbrev met_by : Layout → ℕ → Span → Bool
met_by l p s = list_any (λ b. covers l (p + b) s) (range_with_len 0 4) || list_any (λ d. near_word l p d s) (range_with_len 1 3)

span_meets_at : (p q n : ℕ) (b : Bool) → (b ≡ true → n ≡ 4)
    → (not (b && nat_eq q p) && nat_lt (max p q) (min (p + 4) (q + n)))
    ≡ (list_any (λ k. not b && nat_le q (p + k) && nat_lt (p + k) (q + n)) (range_with_len 0 4) || list_any (λ d. b && nat_eq q (p + d) || nat_le d p && (b && nat_eq q (p - d))) (range_with_len 1 3))
span_meets_at p q n true word = rw (word refl) (near p q)
span_meets_at p q n false word = over p q n ∙ or_none _ (nat_le 1 p) (nat_le 2 p) (nat_le 3 p)

span_meets : (l : Layout) (p : ℕ) (s : Span) → IsWord s → meets l p s ≡ met_by l p s
span_meets l p s word = span_meets_at p (off l s.place) s.len s.recorded word

spans_meet : (l : Layout) (p : ℕ) (ss : List Span) → Each IsWord ss → Each (λ s. meets l p s ≡ met_by l p s) ss
spans_meet l p [] words = tt
spans_meet l p (s ∷ ss) words = (span_meets l p s words.0, spans_meet l p ss words.1)

-- begins, of some span
near_any : (l : Layout) (p d : ℕ) (ss : List Span) → list_any (near_word l p d) ss ≡ (list_any (begins l (p + d)) ss || nat_le d p && list_any (begins l (p - d)) ss)
near_any l p d ss =
    any_or (begins l (p + d)) (λ s. nat_le d p && begins l (p - d) s) ss
    ∙ ap (λ b. list_any (begins l (p + d)) ss || b) (any_and (nat_le d p) (begins l (p - d)) ss)

-- a word at p meets one of the spans
pub any_meets : (l : Layout) (p : ℕ) (ss : List Span) → Each IsWord ss
    → list_any (meets l p) ss
    ≡ (list_any (λ b. list_any (covers l (p + b)) ss) (range_with_len 0 4) || list_any (λ d. list_any (near_word l p d) ss) (range_with_len 1 3))
any_meets l p ss words =
    any_each (meets l p) (met_by l p) ss (spans_meet l p ss words)
    ∙ any_or (λ s. list_any (λ b. covers l (p + b) s) (range_with_len 0 4)) (λ s. list_any (λ d. near_word l p d s) (range_with_len 1 3)) ss
    ∙ ap₂ (λ a b. a || b) (any_swap (λ b s. covers l (p + b) s) (range_with_len 0 4) ss) (any_swap (λ d s. near_word l p d s) (range_with_len 1 3) ss)

-- an entry among all, by its index k

-- the entry with index k
abbrev pub entry_of : List (List Span) → ℕ → List Span
entry_of es k = slice_index_or es k []

record IsSplit (all rest own : List Span) : Type 0 where
  pub before : List Span
  pub behind : List Span
  pub all_is : all ≡ before ++ (own ++ behind)
  pub rest_is : rest ≡ before ++ behind

split_at : (es : List (List Span)) (k : ℕ) → k < length es → IsSplit (all_of es) (others k es) (entry_of es k)
split_at es k below =
    let cut : es ≡ take k es ++ (entry_of es k ∷ drop (k + 1) es) =
    sym (take-append-drop k es) ∙ ap (λ xs. take k es ++ xs) (drop-cons es k [] below ∙ ap (λ n. entry_of es k ∷ drop n es) (sym (add-one k))) in
    record {
      before = all_of (take k es);
      behind = all_of (drop (k + 1) es);
      all_is = ap all_of cut ∙ flat_map-append (λ ss. ss) (take k es) (entry_of es k ∷ drop (k + 1) es);
      rest_is = flat_map-append (λ ss. ss) (take k es) (drop (k + 1) es);
    }

count_split : (f : Span → Bool) (all rest own : List Span) → IsSplit all rest own → count_by f all ≡ count_by f rest + count_by f own
count_split f all rest own is =
    let a = ap (count_by f) is.all_is ∙ count-append f is.before (own ++ is.behind) in
    let b = count-append f own is.behind in
    let c = ap (count_by f) is.rest_is ∙ count-append f is.before is.behind in
    omega arith

any_split : (f : Span → Bool) (all rest own : List Span) → IsSplit all rest own → list_any f own ≡ false → list_any f all ≡ list_any f rest
any_split f all rest own is none =
    ap (list_any f) is.all_is ∙ list_any-append f is.before (own ++ is.behind)
    ∙ ap (λ b. list_any f is.before || b) (list_any-append f own is.behind ∙ ap (λ b. b || list_any f is.behind) none)
    ∙ sym (ap (list_any f) is.rest_is ∙ list_any-append f is.before is.behind)

-- what holds of each, in parts of a list

each_parts : {X : Type 0} (P : X → Type 0) (xs ys : List X) → Each P (xs ++ ys) → Each P xs × Each P ys
each_parts P [] ys all = (tt, all)
each_parts P (x ∷ xs) ys all = let rest = each_parts P xs ys all.1 in ((all.0, rest.0), rest.1)

each_split : (P : Span → Type 0) (all rest own : List Span) → IsSplit all rest own → Each P all → Each P rest
each_split P all rest own is each =
    let Q : List Span → Type 0 = λ ss. Each P ss in
    let outer = each_parts P is.before (own ++ is.behind) (subst Q is.all_is each) in
    let inner = each_parts P own is.behind outer.1 in
    subst Q (sym is.rest_is) (each-append P is.before is.behind outer.0 inner.1)

-- the spans of an entry: none, or its field's, and perhaps its slot's, and only words are recorded
abbrev pub IsEntry : List Span → Type 0
IsEntry [] = Unit {0}
IsEntry (own ∷ []) = IsWord own
IsEntry (own ∷ slot ∷ []) = (own.recorded ≡ false) × (own.len ≡ 4) × (slot.len ≡ 4)
IsEntry (own ∷ slot ∷ more ∷ rest) = ⊥

pub entry_words : (ss : List Span) → IsEntry ss → Each IsWord ss
entry_words [] is = tt
entry_words (own ∷ []) is = (is, tt)
entry_words (own ∷ slot ∷ []) is = ((λ recorded. is.1), ((λ recorded. is.2), tt))
entry_words (own ∷ slot ∷ more ∷ rest) is = absurd is

all_words : (es : List (List Span)) → Each IsEntry es → Each IsWord (all_of es)
all_words [] each = tt
all_words (x ∷ es) each = each-append IsWord x (all_of es) (entry_words x each.0) (all_words es each.1)

-- what a recorded word says of its own entry
pub record IsOwn (l : Layout) (own : List Span) (r : Recorded) : Type 0 where
  pub covered : (b : ℕ) → count_by (covers l b) own ≡ own_cover r.instruction b
  pub begun : (q : ℕ) → (q ≡ r.place → ⊥) → list_any (begins l q) own ≡ false

own_cover_le : (i : Option ℕ) (b : ℕ) → own_cover i b ≤ 1
own_cover_le None b = omega arith
own_cover_le (Some i) b = grind (arith, nat_tests)

shared_same : (o c : ℕ) → o ≤ 1 → nat_lt 0 c ≡ nat_lt o (min 2 (c + o))
shared_same o c small = grind (arith, nat_tests)

and_same : (a b c : Bool) → (a ≡ true → b ≡ c) → (a && b) ≡ (a && c)
and_same true b c same = same refl
and_same false b c same = refl

shared_at : (l : Layout) (n : ℕ) (all rest own : List Span) (cover : Cover) (r : Recorded) (b : ℕ) → IsSplit all rest own → IsCover l n all cover → IsOwn l own r
    → list_any (covers l b) rest ≡ is_shared cover.still.items r b
shared_at l n all rest own cover r b split covered_by is =
    any_count (covers l b) rest ∙ shared_same (own_cover r.instruction b) (count_by (covers l b) rest) (own_cover_le r.instruction b)
    ∙ ap (λ k. nat_lt (own_cover r.instruction b) (min 2 k)) (sym (count_split (covers l b) all rest own split ∙ ap (λ k. count_by (covers l b) rest + k) (is.covered b)))
    ∙ ap (λ k. nat_lt (own_cover r.instruction b) k) (sym (covered_by.still b))

pub some_two : (c : ℕ) → nat_lt 0 (min 2 c) ≡ nat_lt 0 c
some_two c = grind (arith, nat_tests)

begun_at : (l : Layout) (n : ℕ) (all rest own : List Span) (cover : Cover) (r : Recorded) (q : ℕ) → IsSplit all rest own → IsCover l n all cover → IsOwn l own r
    → (q ≡ r.place → ⊥) → list_any (begins l q) rest ≡ nat_lt 0 (slice_index cover.words.items q)
begun_at l n all rest own cover r q split covered_by is other =
    sym (any_split (begins l q) all rest own split (is.begun q other)) ∙ any_count (begins l q) all
    ∙ sym (some_two (count_by (begins l q) all)) ∙ ap (λ n. nat_lt 0 n) (sym (covered_by.words q))

near_at : (l : Layout) (n : ℕ) (all rest own : List Span) (cover : Cover) (r : Recorded) (d : ℕ) → IsSplit all rest own → IsCover l n all cover → IsOwn l own r
    → 0 < d → list_any (near_word l r.place d) rest ≡ begins_near cover.words.items r.place d
near_at l n all rest own cover r d split covered_by is far =
    near_any l r.place d rest
    ∙ ap₂ (λ a b. a || b) (begun_at l n all rest own cover r (r.place + d) split covered_by is (λ same. absurd (omega arith)))
    (and_same (nat_le d r.place) (list_any (begins l (r.place - d)) rest) (nat_lt 0 (slice_index cover.words.items (r.place - d)))
    (λ le. let low = leb-true d r.place le in begun_at l n all rest own cover r (r.place - d) split covered_by is (λ same. absurd (omega arith))))

-- what is covered tells whether the word meets another entry
met_same : (l : Layout) (n : ℕ) (all rest own : List Span) (cover : Cover) (r : Recorded) → IsSplit all rest own → IsCover l n all cover → IsOwn l own r → Each IsWord rest
    → list_any (meets l r.place) rest ≡ is_met cover r
unfolding is_met
met_same l n all rest own cover r split covered_by is words =
    let shared = λ (b : ℕ). shared_at l n all rest own cover r (r.place + b) split covered_by is in
    let begun = λ (d : ℕ) (far : 0 < d). near_at l n all rest own cover r d split covered_by is far in
    any_meets l r.place rest words
    ∙ ap₂ (λ a b. a || b)
    (any_each (λ b. list_any (covers l (r.place + b)) rest) (λ b. is_shared cover.still.items r (r.place + b)) (range_with_len 0 4) (shared 0, (shared 1, (shared 2, (shared 3, tt)))))
    (any_each (λ d. list_any (near_word l r.place d) rest) (begins_near cover.words.items r.place) (range_with_len 1 3)
    (begun 1 (omega arith), (begun 2 (omega arith), (begun 3 (omega arith), tt))))

-- the words of one entry

one_kept : (f : ℕ → Bool) (cover : Cover) (r : Recorded) → f r.place ≡ is_met cover r → filter f (r.place ∷ []) ≡ map (λ w. w.place) (filter (is_met cover) (r ∷ []))
one_kept f cover r same = elim (cases_Bool (is_met cover r)) [
  | inl met ↦ rw (same, met) refl
  | inr not_met ↦ rw (same, not_met) refl
]

pub word_own : (l : Layout) (own : Span) → own.recorded ≡ true → IsOwn l (own ∷ []) (record { place = off l own.place; instruction = None })
word_own l own recorded = record {
  covered = λ b. rw recorded refl;
  begun = λ q other. rw (recorded, ne_eqb (off l own.place) q (λ same. other (sym same))) refl;
}

slot_covered : (l : Layout) (own slot : Span) (b : ℕ) → own.recorded ≡ false → own.len ≡ 4 → slot.recorded ≡ true
    → count_by (covers l b) (own ∷ slot ∷ []) ≡ own_cover (Some (off l own.place)) b
slot_covered l own slot b still len recorded = elim (cases_Bool (nat_le (off l own.place) b && nat_lt b (off l own.place + 4))) [
  | inl here ↦ rw (still, len, recorded, here) refl
  | inr away ↦ rw (still, len, recorded, away) refl
]

pub slot_own : (l : Layout) (own slot : Span) → own.recorded ≡ false → own.len ≡ 4 → slot.recorded ≡ true
    → IsOwn l (own ∷ slot ∷ []) (record { place = off l slot.place; instruction = Some (off l own.place) })
slot_own l own slot still len recorded = record {
  covered = λ b. slot_covered l own slot b still len recorded;
  begun = λ q other. rw (still, recorded, ne_eqb (off l slot.place) q (λ same. other (sym same))) refl;
}

entry_met : (l : Layout) (f : ℕ → Bool) (cover : Cover) (ss : List Span) → IsEntry ss → ((r : Recorded) → IsOwn l ss r → f r.place ≡ is_met cover r)
    → filter f (recorded_places l ss) ≡ map (λ w. w.place) (filter (is_met cover) (recorded_of l ss))
entry_met l f cover [] is same = refl
entry_met l f cover (own ∷ []) is same = elim (cases_Bool own.recorded) [
  | inl recorded ↦
      rw recorded (one_kept f cover (record { place = off l own.place; instruction = None }) (same (record { place = off l own.place; instruction = None }) (word_own l own recorded)))
  | inr still ↦ rw still refl
]
entry_met l f cover (own ∷ slot ∷ []) is same = elim (cases_Bool slot.recorded) [
  | inl recorded ↦
      rw (is.0, recorded) (one_kept f cover (record { place = off l slot.place; instruction = Some (off l own.place) })
      (same (record { place = off l slot.place; instruction = Some (off l own.place) }) (slot_own l own slot is.0 is.1 recorded)))
  | inr still ↦ rw (is.0, still) refl
]
entry_met l f cover (own ∷ slot ∷ more ∷ rest) is same = absurd is

each_get : {X : Type 0} (P : X → Type 0) (xs : List X) (k : ℕ) (d : X) → Each P xs → k < length xs → P (get_or xs k d)
each_get P [] k d each below = absurd (omega arith)
each_get P (x ∷ xs) zero d each below = each.0
each_get P (x ∷ xs) (suc k) d each below = each_get P xs k d each.1 (omega arith)

-- all entries

pub met_words_at : (l : Layout) (n : ℕ) (es : List (List Span)) (cover : Cover) (k : ℕ) → k < length es → Each IsEntry es → IsCover l n (all_of es) cover
    → met_words l es k ≡ map (λ w. w.place) (filter (is_met cover) (recorded_of l (entry_of es k)))
met_words_at l n es cover k below each covered_by =
    let split = split_at es k below in
    let words = each_split IsWord (all_of es) (others k es) (entry_of es k) split (all_words es each) in
    entry_met l (λ p. list_any (meets l p) (others k es)) cover (entry_of es k) (each_get IsEntry es k [] each below)
    (λ r is. met_same l n (all_of es) (others k es) (entry_of es k) cover r split covered_by is words)

pub flat_map_indexed : {X Y : Type 0} (f : ℕ → List Y) (g : X → List Y) (xs : List X) (d : X) (a : ℕ) → ((k : ℕ) → k < length xs → f (a + k) ≡ g (get_or xs k d))
    → flat_map f (range_with_len a (length xs)) ≡ flat_map g xs
flat_map_indexed f g [] d a same = refl
flat_map_indexed f g (x ∷ xs) d a same =
    ap₂ (λ ys zs. ys ++ zs) (ap f (sym (add-zero a)) ∙ same 0 (omega arith))
    (flat_map_indexed f g xs d (a + 1) (λ k below. ap f (omega arith) ∙ same (suc k) (omega arith)))

kept_flat : {X : Type 0} (cover : Cover) (h : X → List Recorded) (xs : List X)
    → flat_map (λ x. map (λ w. w.place) (filter (is_met cover) (h x))) xs ≡ map (λ w. w.place) (filter (is_met cover) (flat_map h xs))
kept_flat cover h [] = refl
kept_flat cover h (x ∷ xs) =
    ap (λ ns. map (λ w. w.place) (filter (is_met cover) (h x)) ++ ns) (kept_flat cover h xs)
    ∙ sym (ap (map (λ w. w.place)) (filter-append (is_met cover) (h x) (flat_map h xs)) ∙ map-append (λ w. w.place) (filter (is_met cover) (h x)) (filter (is_met cover) (flat_map h xs)))

-- the words that meet another entry, as what is covered tells them
pub met_words_covered : (l : Layout) (n : ℕ) (es : List (List Span)) (cover : Cover) → Each IsEntry es → IsCover l n (all_of es) cover
    → flat_map (met_words l es) (range_with_len 0 (length es)) ≡ map (λ w. w.place) (filter (is_met cover) (flat_map (recorded_of l) es))
met_words_covered l n es cover each covered_by =
    flat_map_indexed (met_words l es) (λ ss. map (λ w. w.place) (filter (is_met cover) (recorded_of l ss))) es [] 0
    (λ k below. ap (met_words l es) (zero-add k) ∙ met_words_at l n es cover k below each covered_by)
    ∙ kept_flat cover (recorded_of l) es
