-- The words that entries record, and words in the order of their numbers.
use Rattle.std.proofs.Common.{◌≡◌, ℕ, zero, suc, ◌+◌, ◌%◌, ◌^◌, ◌<◌, ◌≤◌, ◌==◌, inl, inr, Bool, true, false, ◌||◌, List, [], ◌∷◌, map, flat_map, filter, min, Option, Some, None, refl, sym, ap, ap₂, ◌∙◌, arith, if◌then◌else◌}
use Rattle.std.specs.List.{range_with_len, list_any, AllByRecursion as Each}
use Rattle.std.specs.Option.{option_map}
use Rattle.std.proofs.lemmas.Bool.{cases_Bool, eqb-true, eq-eqb}
use Rattle.flat_layout.specs.declared.layout.Layout.{Layout}
use Rattle.flat_layout.specs.Layout.{layout, off, stored_end}
use Rattle.flat_layout.specs.Rows.{has_numbers}
use Rattle.flat_layout.proofs.Facts.{start_fits}
use Rattle.elf32_reader.specs.Relas.{is_kept}
use Rattle.psabi_relocs.specs.declared.reloc.Reloc.{Reloc}
use Rattle.psabi_relocs.specs.declared.row.Row.{Row}
use Rattle.psabi_relocs.specs.declared.row.Row.TheVariants.{Pointer, GotHi20}
use Rattle.psabi_relocs.specs.declared.effect.Effect.TheVariants as effects
use Rattle.psabi_relocs.specs.declared.spans.Span.{Span}
use Rattle.psabi_relocs.specs.Class.{is_moving}
use Rattle.psabi_relocs.specs.Row.{is_got_hi20}
use Rattle.psabi_relocs.specs.Reloc.{reloc}
use Rattle.psabi_relocs.specs.Slot.{slot_of}
use Rattle.psabi_relocs.specs.Field.{Ends, own_ends, slot_ends, ends_of, fields}
use Rattle.psabi_relocs.specs.Effect.{is_pointer, moving_effect, effect, spans}
use Rattle.psabi_relocs.specs.Fault.{reloc_fault}
use Rattle.elf2flt_tool.specs.declared.refusal.Refusal.{Refusal}
use Rattle.elf2flt_tool.specs.declared.fault.Fault.{Fault}
use Rattle.elf2flt_tool.specs.declared.word.Word.{Word}
use Rattle.elf2flt_tool.specs.declared.entry_word.EntryWord.{EntryWord}
use Rattle.elf2flt_tool.specs.Image.{pointers}
use Rattle.elf2flt_tool.specs.Word.{numbered, lowest, lower, recorded_places}
use Rattle.elf2flt_tool.specs.Cover.{IsInside, IsWord}
use Rattle.elf2flt_tool.specs.Faults.{word_of, refusal_of, first_refusal}
use Rattle.elf2flt_tool.proofs.Members.{each-map, each-weaker, each_fails, map_map, any-map}
use Rattle.elf2flt_tool.proofs.Laid.{is_laid}
use Rattle.elf2flt_tool.proofs.Meeting.{entry_words}
use Rattle.elf2flt_tool.proofs.Shapes.{spans_entry, spans_inside}
use Rattle.elf2flt_tool.proofs.Apart.{fields_by, fields_are_by, own_pointer, got_ends, is_entry}

-- ---- the word of an entry, by what it asks of a loader

wraps : (l : Layout) (v : ℕ) → l.v0 < 2 ^ 32 → off l v ≡ off l ((v + 0) % 2 ^ 32)
unfolding off
wraps l v start = omega arith

abbrev one : ℕ → ℕ → List Word
one p t = record { place = p; target = t } ∷ []

effect_row : (l : Layout) (row : Row) (e : List ℕ) (i : ℕ) (r : Reloc) (o : Option Ends) (g : Option ℕ) (moves : Bool) → l.v0 < 2 ^ 32
    → is_moving r.class ≡ moves → slot_of e i r.place ≡ g
    → (is_pointer row ≡ true → o ≡ Some (own_ends r)) → (is_got_hi20 row ≡ true → o ≡ option_map (slot_ends r.place) g)
    → word_of l (if moves then moving_effect row e i r else effects.Still) ≡ map (numbered l) (pointers (fields_by row r o))
unfolding numbered
effect_row l Pointer e i r None g moves start m s own slot = absurd (let some = own refl in cc)
effect_row l Pointer e i r (Some o) g true start m s own slot = rw m refl
effect_row l Pointer e i r (Some o) g false start m s own slot = rw m refl
effect_row l GotHi20 e i r None None true start m s own slot = rw s refl
effect_row l GotHi20 e i r None None false start m s own slot = refl
effect_row l GotHi20 e i r None (Some g) moves start m s own slot = absurd (let some = slot refl in cc)
effect_row l GotHi20 e i r (Some o) None moves start m s own slot = absurd (let some = slot refl in cc)
effect_row l GotHi20 e i r (Some o) (Some g) true start m s own slot =
    let same : o.value ≡ g = (let some : o ≡ slot_ends r.place g = (let s = slot refl in cc) in ap (λ o. o.value) some) in
    rw (m, s) (ap₂ one (ap (off l) (sym same)) (wraps l r.value start))
effect_row l GotHi20 e i r (Some o) (Some g) false start m s own slot = rw m refl
effect_row l row e i r None g true start m s own slot = refl
effect_row l row e i r None g false start m s own slot = refl
effect_row l row e i r (Some o) g true start m s own slot = refl
effect_row l row e i r (Some o) g false start m s own slot = refl

pub words_effect : (e : List ℕ) (i j : ℕ) → word_of (layout e) (effect e i j) ≡ map (numbered (layout e)) (pointers (fields e 0 i j))
unfolding fields effect
words_effect e i j =
    let r = reloc e i j in
    let l = layout e in
    rw (fields_are_by r (ends_of e i r))
    (effect_row l r.row e i r (ends_of e i r) (slot_of e i r.place) (is_moving r.class) (start_fits e) refl refl (λ is. own_pointer e i r is) (λ is. got_ends e i r is))

pub effect_places : (e : List ℕ) (i j : ℕ) → map (λ w. w.place) (word_of (layout e) (effect e i j)) ≡ recorded_places (layout e) (spans e i j)
unfolding numbered
effect_places e i j =
    ap (map (λ w. w.place)) (words_effect e i j) ∙ map_map (λ w. w.place) (numbered (layout e)) (pointers (fields e 0 i j)) ∙ (is_entry e (layout e) i j).places

-- ---- where it stands

places_within : (l : Layout) (n : ℕ) (ss : List Span) → Each (IsInside l n) ss → Each IsWord ss → Each (λ p. p + 4 ≤ n) (recorded_places l ss)
places_within l n [] inside words = tt
places_within l n (s ∷ ss) inside words = elim (cases_Bool s.recorded) [
  | inl on ↦
      let len = words.0 on in
      let at : off l s.place + s.len ≤ n = inside.0 (omega arith) in
      rw on ((let e : off l s.place + 4 ≤ n = omega arith in e), places_within l n ss inside.1 words.1)
  | inr still ↦ rw still (places_within l n ss inside.1 words.1)
]

-- the word of a sound entry stands in text and data
pub entry_within : (e : List ℕ) (i j : ℕ) → has_numbers e ≡ true → is_kept e i ≡ true → reloc_fault e i j ≡ None
    → Each (λ p. p + 4 ≤ (layout e).text + (layout e).data_len) (recorded_places (layout e) (spans e i j))
entry_within e i j numbers kept none =
    let laid = is_laid e numbers in
    rw laid.stored (places_within (layout e) (stored_end e) (spans e i j) (spans_inside e i j laid kept none) (entry_words (spans e i j) (spans_entry e i j)))

-- ---- what passes a test

pub record IsKept {X : Type 0} (test : X → Bool) (xs : List X) : Type 0 where
  pub first : X
  pub rest : List X
  pub passes : test first ≡ true
  pub is : filter test xs ≡ first ∷ rest

pub kept_some : {X : Type 0} (test : X → Bool) (xs : List X) → list_any test xs ≡ true → IsKept test xs
kept_some test [] some = absurd cc
kept_some test (x ∷ xs) some = elim (cases_Bool (test x)) [
  | inl here ↦ record { first = x; rest = filter test xs; passes = here; is = rw here refl }
  | inr not_here ↦
      let later = kept_some test xs (rw not_here at some) in
      record { first = later.first; rest = later.rest; passes = later.passes; is = rw not_here later.is }
]

pub kept_none : {X : Type 0} (test : X → Bool) (xs : List X) → list_any test xs ≡ false → filter test xs ≡ []
kept_none test [] none = refl
kept_none test (x ∷ xs) none = elim (cases_Bool (test x)) [
  | inl here ↦ absurd (let is = rw here at none in cc)
  | inr not_here ↦ rw not_here (kept_none test xs (rw not_here at none))
]

-- ---- the least number

lowest_from : (ns : List ℕ) (a m : ℕ) → Each (λ n. a ≤ n) ns → lowest ns ≡ Some m → a ≤ m
lowest_from [] a m from is = absurd cc
lowest_from (n ∷ ns) a m from is = by (lowest ns) (λ k. lowest_from ns a k from.1) is
  where
    by : (o : Option ℕ) → ((k : ℕ) → o ≡ Some k → a ≤ k) → Some (lower n o) ≡ Some m → a ≤ m
    by None tail is = let same : n ≡ m = cc in let head = from.0 in omega arith
    by (Some k) tail is = let same : min n k ≡ m = cc in let head = from.0 in let rest = tail k refl in omega arith

lowest_is : (ns : List ℕ) (a : ℕ) → Each (λ n. a ≤ n) ns → list_any (λ n. n == a) ns ≡ true → lowest ns ≡ Some a
lowest_is [] a from there = absurd cc
lowest_is (n ∷ ns) a from there = elim (cases_Bool (list_any (λ n. n == a) ns)) [
  | inl later ↦
      let head = from.0 in
      let least : min n a ≡ a = omega arith in
      ap (λ o. Some (lower n o)) (lowest_is ns a from.1 later) ∙ ap Some least
  | inr not_later ↦ by (lowest ns) (λ k. lowest_from ns a k from.1) (eqb-true n a (first (n == a) (rw not_later at there)))
]
  where
    first : (b : Bool) → (b || false) ≡ true → b ≡ true
    first true is = refl
    first false is = is

    by : (o : Option ℕ) → ((k : ℕ) → o ≡ Some k → a ≤ k) → n ≡ a → Some (lower n o) ≡ Some a
    by None tail same = ap Some same
    by (Some k) tail same = let rest = tail k refl in let least : min n k ≡ a = omega arith in ap Some least

-- ---- words by number

abbrev pub at_place : ℕ → EntryWord → Bool
at_place p w = w.place == p

-- the first of them has the least number
pub first_by_place : (f : EntryWord → Fault) (r : ℕ → Refusal) → ((w : EntryWord) → refusal_of (f w) ≡ r w.place) → (n a : ℕ) (ws : List EntryWord)
    → Each (λ w. a ≤ w.place) ws → Each (λ w. w.place < a + n) ws
    → first_refusal (map f (flat_map (λ p. filter (at_place p) ws) (range_with_len a n))) ≡ option_map r (lowest (map (λ w. w.place) ws))
first_by_place f r is zero a [] from to = refl
first_by_place f r is zero a (w ∷ ws) from to = absurd (let low = from.0 in let high = to.0 in omega arith)
first_by_place f r is (suc n) a ws from to = elim (cases_Bool (list_any (at_place a) ws)) [
  | inl some ↦
      let kept = kept_some (at_place a) ws some in
      let least : lowest (map (λ w. w.place) ws) ≡ Some a = lowest_is (map (λ w. w.place) ws) a (each-map (λ n. a ≤ n) (λ w. w.place) ws from) (any-map (λ n. n == a) (λ w. w.place) ws ∙ some) in
      rw (kept.is, least) (ap Some (is kept.first ∙ ap r (eqb-true kept.first.place a kept.passes)))
  | inr none ↦
      rw (kept_none (at_place a) ws none)
      (first_by_place f r is n (a + 1) ws (later ws from (each_fails (at_place a) ws none)) (each-weaker (λ w. w.place < a + suc n) (λ w. w.place < a + 1 + n) (λ w low. omega arith) ws to))
]
  where
    later : (ws : List EntryWord) → Each (λ w. a ≤ w.place) ws → Each (λ w. at_place a w ≡ false) ws → Each (λ w. a + 1 ≤ w.place) ws
    later [] from other = tt
    later (w ∷ ws) from other = ((let low = from.0 in let apart = apart_of w other.0 in let e : a + 1 ≤ w.place = omega arith in e), later ws from.1 other.1)
      where
        apart_of : (w : EntryWord) → at_place a w ≡ false → w.place ≡ a → ⊥
        apart_of w is same = let yes : (w.place == a) ≡ true = eq-eqb w.place a same in cc
