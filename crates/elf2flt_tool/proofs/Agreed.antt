-- Two files that agree on the relocations that record a word record words at the same numbers, and two that agree on all kept
-- relocations agree on these.
use Rattle.std.proofs.Common.{◌≡◌, ℕ, zero, suc, ◌+◌, ◌<◌, ◌≤◌, ◌⊎◌, inl, inr, Bool, true, false, ◌||◌, nat_eq, List, [], ◌∷◌, flat_map, Option, Some, None, refl, sym, ap, subst, ◌∙◌, arith, if◌then◌else◌}
use Rattle.std.specs.List.{list_any, range_with_len}
use Rattle.std.proofs.lemmas.Bool.{cases_Bool, or_cases, or_left, or_right, and_parts, and_from, eqb-true, eqb-false, eq-eqb}
use Rattle.std.proofs.lemmas.List.Folds.{list_any-append}
use Rattle.byte_words.specs.Numbers.{IsBytes}
use Rattle.bflt_format.proofs.Rising.{has}
use Rattle.elf32_reader.specs.Header.{count_of}
use Rattle.elf32_reader.specs.Relas.{is_kept, rela_count}
use Rattle.elf32_reader.proofs.Places.{is_kept_below}
use Rattle.flat_layout.specs.declared.layout.Layout.{Layout}
use Rattle.flat_layout.specs.Layout.{layout, off}
use Rattle.psabi_relocs.specs.declared.reloc.Reloc.{Reloc}
use Rattle.psabi_relocs.specs.declared.row.Row.{Row}
use Rattle.psabi_relocs.specs.declared.row.Row.TheVariants.{GotHi20}
use Rattle.psabi_relocs.specs.Class.{is_moving}
use Rattle.psabi_relocs.specs.Row.{is_got_hi20, is_high, is_low}
use Rattle.psabi_relocs.specs.Reloc.{reloc}
use Rattle.psabi_relocs.specs.Slot.{slot_of}
use Rattle.psabi_relocs.specs.Effect.{is_pointer, own_span, slot_spans, spans}
use Rattle.flat_layout.proofs.Facts.{clear_numbers}
use Rattle.elf2flt_tool.specs.Relocs.{spans_in, spans_of}
use Rattle.elf2flt_tool.specs.Image.{bare}
use Rattle.elf2flt_tool.specs.Word.{words, begins_at}
use Rattle.elf2flt_tool.specs.Cover.{begins}
use Rattle.elf2flt_tool.specs.Walk.{all_of}
use Rattle.elf2flt_tool.specs.Same.{HaveSameSections, SaysSame, records_word, SharesLow, HasRecorder, HasRecorders, RecordsSame, IsTwinReloc, HasRelocs, IsHighAt, HasHighsApart}
use Rattle.elf2flt_tool.specs.Laws.{SameRecordersLaw, NothingElseLaw}
use Rattle.elf2flt_tool.proofs.Members.{any-map}
use Rattle.elf2flt_tool.proofs.Laid.{is_laid}
use Rattle.elf2flt_tool.proofs.Sound.{AllSound}
use Rattle.elf2flt_tool.proofs.Held.{IsTarget}
use Rattle.elf2flt_tool.proofs.Recorded.{IsClear, is_clear, all_sound}
use Rattle.elf2flt_tool.proofs.Apart.{places_of_spans}
use Rattle.elf2flt_tool.proofs.Ascending.{begins_has, begins_all}
use Rattle.elf2flt_tool.proofs.Slots.{IsLowOf, slot_from, slot_by_any, has_slot, has_low, has_high}
use Rattle.elf2flt_tool.proofs.Twins.{layout_same, bare_at, turned, same_words_law}

-- ---- lists

any-flat : {X Y : Type 0} (test : Y → Bool) (f : X → List Y) (xs : List X) → list_any test (flat_map f xs) ≡ list_any (λ x. list_any test (f x)) xs
any-flat test f [] = refl
any-flat test f (x ∷ xs) = list_any-append test (f x) (flat_map f xs) ∙ ap (λ b. list_any test (f x) || b) (any-flat test f xs)

record Met (test : ℕ → Bool) (n : ℕ) : Type 0 where
  index : ℕ
  below : index < n
  passes : test index ≡ true

met : (test : ℕ → Bool) (a n : ℕ) → list_any test (range_with_len a n) ≡ true → Met test (a + n)
met test a zero is = absurd (cc)
met test a (suc n) is = elim (or_cases (test a) (list_any test (range_with_len (a + 1) n)) is) [
  | inl here ↦ record { index = a; below = omega arith; passes = here }
  | inr later ↦ let m = met test (a + 1) n later in record { index = m.index; below = let below = m.below in omega arith; passes = m.passes }
]

meeting : (test : ℕ → Bool) (a n k : ℕ) → a ≤ k → k < a + n → test k ≡ true → list_any test (range_with_len a n) ≡ true
meeting test a zero k low high on = absurd (omega arith)
meeting test a (suc n) k low high on = elim (cases_Bool (nat_eq a k)) [
  | inl same ↦ or_left _ _ (ap test (eqb-true a k same) ∙ on)
  | inr other ↦ or_right (test a) _ (meeting test (a + 1) n k (let apart = eqb-false a k other in omega arith) (omega arith) on)
]

-- ---- the entries that record a word at a number

record IsRecording (e : List ℕ) (n : ℕ) : Type 0 where
  section : ℕ
  index : ℕ
  kept : is_kept e section ≡ true
  below : index < rela_count e section
  begins : list_any (begins (layout e) n) (spans e section index) ≡ true

begins_is : (e : List ℕ) (n : ℕ) → begins_at (words e) n ≡ list_any (begins (layout e) n) (all_of (spans_of e))
begins_is e n = begins_has e n ∙ ap (λ ps. has ps n) (places_of_spans e (layout e)) ∙ sym (begins_all (layout e) n (spans_of e))

abbrev in_section : List ℕ → ℕ → ℕ → Bool
in_section e n i = list_any (λ ss. list_any (begins (layout e) n) ss) (spans_in e i)

by_sections : (e : List ℕ) (n : ℕ) → list_any (begins (layout e) n) (all_of (spans_of e)) ≡ list_any (in_section e n) (range_with_len 0 (count_of e))
unfolding spans_of
by_sections e n =
    any-flat (begins (layout e) n) (λ ss. ss) (flat_map (spans_in e) (range_with_len 0 (count_of e)))
    ∙ any-flat (λ ss. list_any (begins (layout e) n) ss) (spans_in e) (range_with_len 0 (count_of e))

section_recording : (e : List ℕ) (n i : ℕ) → in_section e n i ≡ true → IsRecording e n
unfolding spans_in
section_recording e n i is = elim (cases_Bool (is_kept e i)) [
  | inl kept ↦
      let here = sym (any-map (λ ss. list_any (begins (layout e) n) ss) (spans e i) (range_with_len 0 (rela_count e i))) ∙ (rw kept at is) in
      let m = met (λ j. list_any (begins (layout e) n) (spans e i j)) 0 (rela_count e i) here in
      record { section = i; index = m.index; kept = kept; below = let below = m.below in omega arith; begins = m.passes }
  | inr dropped ↦ absurd (let none = rw dropped at is in cc)
]

recording : (e : List ℕ) (n : ℕ) → begins_at (words e) n ≡ true → IsRecording e n
recording e n is =
    let m = met (in_section e n) 0 (count_of e) (sym (by_sections e n) ∙ sym (begins_is e n) ∙ is) in
    section_recording e n m.index m.passes

recorded_section : (e : List ℕ) (n : ℕ) → (r : IsRecording e n) → in_section e n r.section ≡ true
unfolding spans_in
recorded_section e n r =
    let below = r.below in
    let here = meeting (λ j. list_any (begins (layout e) n) (spans e r.section j)) 0 (rela_count e r.section) r.index (omega arith) (omega arith) r.begins in
    rw r.kept (any-map (λ ss. list_any (begins (layout e) n) ss) (spans e r.section) (range_with_len 0 (rela_count e r.section)) ∙ here)

recorded : (e : List ℕ) (n : ℕ) → IsRecording e n → begins_at (words e) n ≡ true
recorded e n r =
    let below = is_kept_below e r.section r.kept in
    begins_is e n ∙ by_sections e n ∙ meeting (in_section e n) 0 (count_of e) r.section (omega arith) (omega arith) (recorded_section e n r)

-- ---- one entry

record IsOwn (l : Layout) (n : ℕ) (r : Reloc) : Type 0 where
  pointer : is_pointer r.row ≡ true
  moves : is_moving r.class ≡ true
  place : off l r.place ≡ n

record IsSlotAt (e : List ℕ) (i : ℕ) (l : Layout) (n : ℕ) (r : Reloc) : Type 0 where
  got : is_got_hi20 r.row ≡ true
  moves : is_moving r.class ≡ true
  slot : ℕ
  is : slot_of e i r.place ≡ Some slot
  place : off l slot ≡ n

own_begins : (l : Layout) (n : ℕ) (r : Reloc) → begins l n (own_span r) ≡ true → IsOwn l n r
own_begins l n r is =
    let parts = and_parts _ _ is in
    let kind = and_parts (is_pointer r.row) (is_moving r.class) parts.0 in
    record { pointer = kind.0; moves = kind.1; place = eqb-true _ _ parts.1 }

slot_begins : (e : List ℕ) (i : ℕ) (l : Layout) (n : ℕ) (r : Reloc) (g : Option ℕ) → slot_of e i r.place ≡ g → is_got_hi20 r.row ≡ true
    → list_any (begins l n) (slot_spans r g) ≡ true → IsSlotAt e i l n r
slot_begins e i l n r None slot got is = absurd (cc)
slot_begins e i l n r (Some g) slot got is = elim (or_cases _ _ is) [
  | inl here ↦ let parts = and_parts (is_moving r.class) (nat_eq (off l g) n) here in record { got = got; moves = parts.0; slot = g; is = slot; place = eqb-true _ _ parts.1 }
  | inr none ↦ absurd (cc)
]

entry_begins : (e : List ℕ) (i j n : ℕ) → list_any (begins (layout e) n) (spans e i j) ≡ true → IsOwn (layout e) n (reloc e i j) ⊎ IsSlotAt e i (layout e) n (reloc e i j)
unfolding spans
entry_begins e i j n is =
    let r = reloc e i j in
    elim (or_cases (begins (layout e) n (own_span r)) _ is) [
      | inl own ↦ inl (own_begins (layout e) n r own)
      | inr slot ↦ elim (cases_Bool (is_got_hi20 r.row)) [
        | inl got ↦ inr (slot_begins e i (layout e) n r (slot_of e i r.place) refl got (rw got at slot))
        | inr other ↦ absurd (let none = rw other at slot in cc)
      ]
    ]

begins_own : (e : List ℕ) (i j n : ℕ) → IsOwn (layout e) n (reloc e i j) → list_any (begins (layout e) n) (spans e i j) ≡ true
unfolding spans
begins_own e i j n is = or_left _ _ (and_from _ _ (and_from _ _ is.pointer is.moves) (eq-eqb _ _ is.place))

begins_slot : (e : List ℕ) (i j n : ℕ) → IsSlotAt e i (layout e) n (reloc e i j) → list_any (begins (layout e) n) (spans e i j) ≡ true
unfolding spans
begins_slot e i j n is =
    let r = reloc e i j in
    or_right (begins (layout e) n (own_span r)) (list_any (begins (layout e) n) (if is_got_hi20 r.row then slot_spans r (slot_of e i r.place) else []))
    (rw (is.got, is.is) (or_left _ _ (and_from _ _ is.moves (eq-eqb _ _ is.place))))

-- ---- two files

is_target : (e : List ℕ) (i : ℕ) → IsBytes e → IsClear e → is_kept e i ≡ true → IsTarget e i
is_target e i bytes clear kept = record { clear = clear.elf; laid = is_laid e (clear_numbers e clear.laid); bytes = bytes; kept = kept }

sound_of : (e : List ℕ) (i : ℕ) → IsClear e → is_kept e i ≡ true → AllSound e i
sound_of e i clear kept = all_sound e i clear.relocs (is_kept_below e i kept) kept

same_slots : (e : List ℕ) (i : ℕ) (f : List ℕ) (k p g h : ℕ) → IsTarget e i → IsTarget f k → AllSound e i → AllSound f k → layout e ≡ layout f → bare e ≡ bare f
    → SharesLow e i f k p → slot_of e i p ≡ Some g → slot_of f k p ≡ Some h → g ≡ h
same_slots e i f k p g h e_target f_target e_sound f_sound laid bytes low e_slot f_slot =
    slot_by_any e i p g low.index e_target e_sound e_slot (record { below = low.below; low = low.low; names = low.names })
    ∙ (λ t. slot_from (laid t) (bytes t) p (sym low.row t) (sym low.place t))
    ∙ sym (slot_by_any f k p h low.other f_target f_sound f_slot (record { below = low.other_below; low = ap is_low low.row ∙ low.low; names = low.other_names }))

record AreClear (e f : List ℕ) : Type 0 where
  e_bytes : IsBytes e
  f_bytes : IsBytes f
  e_clear : IsClear e
  f_clear : IsClear f
  sections : HaveSameSections e f

twin_recording : (e : List ℕ) (f : List ℕ) (n i j : ℕ) → AreClear e f → is_kept e i ≡ true → IsOwn (layout e) n (reloc e i j) ⊎ IsSlotAt e i (layout e) n (reloc e i j)
    → HasRecorder e i j f → IsRecording f n
twin_recording e f n i j c kept (inl own) twin =
    let t = twin.is in
    let laid = layout_same e f c.sections in
    record {
      section = twin.section;
      index = twin.index;
      kept = t.kept;
      below = t.below;
      begins = begins_own f twin.section twin.index n (record {
        pointer = ap is_pointer t.row ∙ own.pointer;
        moves = t.moves ∙ own.moves;
        place = (λ k. off (sym laid k) (t.place k)) ∙ own.place;
      });
    }
twin_recording e f n i j c kept (inr slot) twin =
    let t = twin.is in
    let laid = layout_same e f c.sections in
    let bytes : bare e ≡ bare f = (λ k x. bare_at e f x c.e_clear c.f_clear c.sections k) in
    let got = ap is_got_hi20 t.row ∙ slot.got in
    let f_sound = sound_of f twin.section c.f_clear t.kept in
    let there = has_slot f twin.section twin.index (f_sound twin.index t.below) got in
    let same = same_slots e i f twin.section (reloc e i j).place slot.slot there.slot
    (is_target e i c.e_bytes c.e_clear kept) (is_target f twin.section c.f_bytes c.f_clear t.kept) (sound_of e i c.e_clear kept) f_sound laid bytes
    (t.low slot.got) slot.is (ap (slot_of f twin.section) (sym t.place) ∙ there.is) in
    record {
      section = twin.section;
      index = twin.index;
      kept = t.kept;
      below = t.below;
      begins = begins_slot f twin.section twin.index n (record {
        got = got;
        moves = t.moves ∙ slot.moves;
        slot = there.slot;
        is = there.is;
        place = (λ k. off (sym laid k) (sym same k)) ∙ slot.place;
      });
    }

records_it : (e : List ℕ) (i : ℕ) (l : Layout) (n : ℕ) (r : Reloc) → IsOwn l n r ⊎ IsSlotAt e i l n r → records_word r ≡ true
records_it e i l n r (inl own) = and_from _ _ own.moves (or_left _ _ own.pointer)
records_it e i l n r (inr slot) = and_from _ _ slot.moves (or_right _ _ slot.got)

words_there : (e f : List ℕ) (n : ℕ) → AreClear e f → HasRecorders e f → begins_at (words e) n ≡ true → begins_at (words f) n ≡ true
words_there e f n c relocs is =
    let here = recording e n is in
    let what = entry_begins e here.section here.index n here.begins in
    let twin = relocs here.section here.index here.kept here.below (records_it e here.section (layout e) n (reloc e here.section here.index) what) in
    recorded f n (twin_recording e f n here.section here.index c here.kept what twin)

both_ways : (a b : Bool) → (a ≡ true → b ≡ true) → (b ≡ true → a ≡ true) → a ≡ b
both_ways true b there back = sym (there refl)
both_ways false true there back = back refl
both_ways false false there back = refl

says_same : (e f : List ℕ) → IsBytes e → IsBytes f → IsClear e → IsClear f → RecordsSame e f → SaysSame e f
says_same e f e_bytes f_bytes e_clear f_clear a =
    let c : AreClear e f = record { e_bytes = e_bytes; f_bytes = f_bytes; e_clear = e_clear; f_clear = f_clear; sections = a.sections } in
    let d : AreClear f e = record { e_bytes = f_bytes; f_bytes = e_bytes; e_clear = f_clear; f_clear = e_clear; sections = turned e f a.sections } in
    record { sections = a.sections; words = λ n. both_ways _ _ (words_there e f n c a.there) (words_there f e n d a.back) }

pub same_recorders_law : SameRecordersLaw
same_recorders_law e f stack e_bytes f_bytes e_none f_none s =
    same_words_law e f stack e_bytes f_bytes e_none f_none (says_same e f e_bytes f_bytes (is_clear e e_none) (is_clear f f_none) s)

-- ---- two files that agree on all kept relocations

got_high : (row : Row) → is_got_hi20 row ≡ true → is_high row ≡ true
got_high GotHi20 got = refl
got_high _ got = absurd (cc)

-- an entry of one file and its twin: a low part of the place, and its twin
low_shared : (e : List ℕ) (i : ℕ) (f : List ℕ) (k p l n : ℕ) → IsLowOf e i p l → n < rela_count f k → reloc f k n ≡ reloc e i l → SharesLow e i f k p
low_shared e i f k p l n is below same = record {
  index = l;
  other = n;
  below = is.below;
  other_below = below;
  low = is.low;
  names = is.names;
  other_names = ap (λ r. r.value) same ∙ is.names;
  row = ap (λ r. r.row) same;
  place = ap (λ r. r.place) same;
}

low_back : (e : List ℕ) (i : ℕ) (f : List ℕ) (k p : ℕ) → SharesLow f k e i p → SharesLow e i f k p
low_back e i f k p s = record {
  index = s.other;
  other = s.index;
  below = s.other_below;
  other_below = s.below;
  low = ap is_low s.row ∙ s.low;
  names = s.other_names;
  other_names = s.names;
  row = sym s.row;
  place = sym s.place;
}

-- the twin of a low part is in the section of the one high part
low_goes : (e : List ℕ) (i : ℕ) (f : List ℕ) (p l k m : ℕ) → IsClear f → HasRelocs e f → HasHighsApart f → is_kept e i ≡ true → IsLowOf e i p l → IsHighAt f p k m → SharesLow e i f k p
low_goes e i f p l k m f_clear relocs apart kept is high =
    let twin = relocs i l kept is.below in
    let t = twin.is in
    let other : IsLowOf f twin.section p twin.index = record { below = t.below; low = ap (λ r. is_low r.row) t.same ∙ is.low; names = ap (λ r. r.value) t.same ∙ is.names } in
    let there = has_high f twin.section p twin.index t.kept (sound_of f twin.section f_clear t.kept) other in
    subst (λ s. SharesLow e i f s p) (apart p twin.section there.index k m there.is high) (low_shared e i f twin.section p l twin.index is t.below t.same)

low_of_twin : (e f : List ℕ) (i j k m : ℕ) → IsClear e → IsClear f → HasRelocs e f → HasRelocs f e → HasHighsApart e ⊎ HasHighsApart f → is_kept e i ≡ true → j < rela_count e i
    → IsTwinReloc e i j f k m → is_got_hi20 (reloc e i j).row ≡ true → SharesLow e i f k (reloc e i j).place
low_of_twin e f i j k m e_clear f_clear there back (inl apart) kept below t got =
    let p = (reloc e i j).place in
    let same_place : (reloc f k m).place ≡ p = ap (λ r. r.place) t.same in
    let low = has_low f k m (sound_of f k f_clear t.kept m t.below) (ap (λ r. is_got_hi20 r.row) t.same ∙ got) in
    let is : IsLowOf f k p low.index = subst (λ q. IsLowOf f k q low.index) same_place low.is in
    low_back e i f k p (low_goes f k e p low.index i j e_clear back apart t.kept is (record { kept = kept; below = below; high = got_high _ got; place = refl }))
low_of_twin e f i j k m e_clear f_clear there back (inr apart) kept below t got =
    let low = has_low e i j (sound_of e i e_clear kept j below) got in
    low_goes e i f (reloc e i j).place low.index k m f_clear there apart kept low.is
    (record { kept = t.kept; below = t.below; high = ap (λ r. is_high r.row) t.same ∙ got_high _ got; place = ap (λ r. r.place) t.same })

recorders : (e f : List ℕ) → IsClear e → IsClear f → HasRelocs e f → HasRelocs f e → HasHighsApart e ⊎ HasHighsApart f → HasRecorders e f
recorders e f e_clear f_clear there back apart i j kept below records =
    let twin = there i j kept below in
    let t = twin.is in
    record {
      section = twin.section;
      index = twin.index;
      is = record {
        kept = t.kept;
        below = t.below;
        row = ap (λ r. r.row) t.same;
        place = ap (λ r. r.place) t.same;
        moves = ap (λ r. is_moving r.class) t.same;
        low = low_of_twin e f i j twin.section twin.index e_clear f_clear there back apart kept below t;
      };
    }

other_way : {X Y : Type 0} → X ⊎ Y → Y ⊎ X
other_way (inl x) = inr x
other_way (inr y) = inl y

pub nothing_else_law : NothingElseLaw
nothing_else_law e f stack e_bytes f_bytes e_none f_none a apart =
    let e_clear = is_clear e e_none in
    let f_clear = is_clear f f_none in
    same_recorders_law e f stack e_bytes f_bytes e_none f_none (record {
      sections = a.sections;
      there = recorders e f e_clear f_clear a.there a.back apart;
      back = recorders f e f_clear e_clear a.back a.there (other_way apart);
    })
