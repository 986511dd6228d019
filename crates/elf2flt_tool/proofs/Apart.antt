-- Recorded words of an accepted file stand at one place or have no byte in common.
use Rattle.std.proofs.Common.{◌≡◌, ℕ, zero, suc, ◌+◌, ◌-◌, ◌<◌, ◌≤◌, ◌⊎◌, inl, inr, Bool, true, false, ◌&&◌, nat_eq, nat_lt, min, max, List, [], ◌∷◌, ◌++◌, map, flat_map, filter, take, drop, length, get_or, Option, Some, None, refl, sym, ap, ◌∙◌, arith, subst, get_or-take, get_or-drop, length-take, length-drop, if◌then◌else◌}
use Rattle.std.specs.List.{range_with_len, list_any, slice_index_or, AllByRecursion as Each}
use Rattle.std.specs.Option.{option_map}
use Rattle.std.proofs.lemmas.List.{map-append}
use Rattle.std.proofs.lemmas.List.Elements.{filter-append}
use Rattle.std.proofs.lemmas.Bool.{cases_Bool, cases_eq, cases_lt, or_cases, or_left, or_right, and_parts, eqb-true, lt-ltb, ltb-true}
use Rattle.std.proofs.lemmas.Grind.{flat_map-append}
use Rattle.elf32_reader.specs.Header.{count_of}
use Rattle.elf32_reader.specs.Relas.{is_kept, rela_count}
use Rattle.bflt_format.specs.Fault.{is_near}
use Rattle.bflt_format.proofs.Rising.{has}
use Rattle.flat_layout.specs.declared.layout.Layout.{Layout}
use Rattle.flat_layout.specs.Layout.{layout, off}
use Rattle.psabi_relocs.specs.declared.reloc.Reloc.{Reloc}
use Rattle.psabi_relocs.specs.declared.row.Row.{Row}
use Rattle.psabi_relocs.specs.declared.row.Row.TheVariants.{Pointer, GotHi20, Low}
use Rattle.psabi_relocs.specs.declared.row.Shape.{Shape}
use Rattle.psabi_relocs.specs.Class.{is_moving}
use Rattle.psabi_relocs.specs.Row.{field_len, is_got_hi20, is_low}
use Rattle.psabi_relocs.specs.Reloc.{reloc}
use Rattle.psabi_relocs.specs.Slot.{slot_of}
use Rattle.psabi_relocs.specs.Field.{Field, Ends, own_ends, slot_ends, high_ends, ends_of, own_fields, slot_fields, fields_from, fields}
use Rattle.psabi_relocs.specs.declared.spans.Span.{Span}
use Rattle.psabi_relocs.specs.Effect.{is_pointer, slot_spans, spans}
use Rattle.elf2flt_tool.specs.Relocs.{fields_in, fields_of, spans_in, spans_of}
use Rattle.elf2flt_tool.specs.Image.{pointers}
use Rattle.elf2flt_tool.specs.Word.{lowest, meets, others, recorded_places, met_words, word_overlap}
use Rattle.elf2flt_tool.proofs.Members.{each-flat_map, each-map, each-range, each_fails}
use Rattle.elf2flt_tool.proofs.Stills.{filter_keep, filter_drop}

-- the numbers of an entry's pointers
abbrev pub pointer_places : Layout → List Field → List ℕ
pointer_places l fs = map (λ f. off l f.place) (pointers fs)

abbrev pub fields_by : Row → Reloc → Option Ends → List Field
fields_by row r None = []
fields_by row r (Some o) = own_fields row 0 r o ++ slot_fields row 0 r o

abbrev spans_by : Row → Reloc → Option ℕ → List Span
spans_by row r g = record { place = r.place; len = field_len row; recorded = is_pointer row && is_moving r.class } ∷ (if is_got_hi20 row then slot_spans r g else [])

one_place : (l : Layout) (p v n : ℕ) (s : Shape) (moves : Bool)
    → pointer_places l (record { place = p; shape = s; value = v; recorded = moves } ∷ []) ≡ recorded_places l (record { place = p; len = n; recorded = moves } ∷ [])
one_place l p v n s true = refl
one_place l p v n s false = refl

-- what an entry's spans are
pub record IsEntry (l : Layout) (fs : List Field) (ss : List Span) : Type 0 where
  pub places : pointer_places l fs ≡ recorded_places l ss
  few : length (recorded_places l ss) ≤ 1
  lens : Each (λ s. s.recorded ≡ true → s.len ≡ 4) ss

one_few : (l : Layout) (p n : ℕ) (moves : Bool) → length (recorded_places l (record { place = p; len = n; recorded = moves } ∷ [])) ≤ 1
one_few l p n true = omega arith
one_few l p n false = omega arith

still_entry : (l : Layout) (row : Row) (r : Reloc) (o : Option Ends) → is_pointer row ≡ false → is_got_hi20 row ≡ false → pointer_places l (fields_by row r o) ≡ [] → IsEntry l (fields_by row r o) (spans_by row r None)
still_entry l row r o plain other none = rw (plain, other) (record { places = none; few = omega arith; lens = (λ is. absurd (cc), tt) })

entry_by : (l : Layout) (row : Row) (r : Reloc) (o : Option Ends) (g : Option ℕ) → (is_pointer row ≡ true → o ≡ Some (own_ends r))
    → (is_got_hi20 row ≡ true → o ≡ option_map (slot_ends r.place) g) → IsEntry l (fields_by row r o) (spans_by row r g)
entry_by l Pointer r None g own slot = absurd (let some = own refl in cc)
entry_by l Pointer r (Some o) g own slot = record { places = one_place l r.place _ 4 _ (is_moving r.class); few = one_few l r.place 4 (is_moving r.class); lens = (λ is. refl, tt) }
entry_by l GotHi20 r None None own slot = record { places = refl; few = omega arith; lens = (λ is. absurd (cc), tt) }
entry_by l GotHi20 r None (Some g) own slot = absurd (let some = slot refl in cc)
entry_by l GotHi20 r (Some o) None own slot = absurd (let some = slot refl in cc)
entry_by l GotHi20 r (Some o) (Some g) own slot =
    let same : o.value ≡ g = (let some : o ≡ slot_ends r.place g = (let s = slot refl in cc) in ap (λ o. o.value) some) in
    record {
      places = one_place l o.value _ 4 _ (is_moving r.class) ∙ ap (λ g. recorded_places l (record { place = g; len = 4; recorded = is_moving r.class } ∷ [])) same;
      few = one_few l g 4 (is_moving r.class);
      lens = (λ is. absurd (cc), (λ is. refl, tt));
    }
entry_by l row r None g own slot = still_entry l row r None refl refl refl
entry_by l row r (Some o) g own slot = still_entry l row r (Some o) refl refl refl

pointer_high : (row : Row) → is_pointer row ≡ true → (is_low row ≡ false) × (is_got_hi20 row ≡ false)
pointer_high Pointer is = (refl, refl)
pointer_high _ is = absurd (cc)

got_low : (row : Row) → is_got_hi20 row ≡ true → is_low row ≡ false
got_low (Low shape) is = absurd (cc)
got_low _ is = refl

pub own_pointer : (e : List ℕ) (i : ℕ) (r : Reloc) → is_pointer r.row ≡ true → ends_of e i r ≡ Some (own_ends r)
unfolding ends_of high_ends
own_pointer e i r is = let plain = pointer_high r.row is in rw (plain.0, plain.1) refl

pub got_ends : (e : List ℕ) (i : ℕ) (r : Reloc) → is_got_hi20 r.row ≡ true → ends_of e i r ≡ option_map (slot_ends r.place) (slot_of e i r.place)
unfolding ends_of high_ends
got_ends e i r is = rw (got_low r.row is, is) refl

pub fields_are_by : (r : Reloc) (o : Option Ends) → fields_from 0 r o ≡ fields_by r.row r o
fields_are_by r None = refl
fields_are_by r (Some o) = refl

pub is_entry : (e : List ℕ) (l : Layout) (i j : ℕ) → IsEntry l (fields e 0 i j) (spans e i j)
unfolding fields spans
is_entry e l i j =
    let r = reloc e i j in
    rw (fields_are_by r (ends_of e i r)) (entry_by l r.row r (ends_of e i r) (slot_of e i r.place) (λ is. own_pointer e i r is) (λ is. got_ends e i r is))

-- ---- the entries of a file

-- one recorded word at most, of four bytes
abbrev pub IsShort : Layout → List Span → Type 0
IsShort l ss = (length (recorded_places l ss) ≤ 1) × Each (λ s. s.recorded ≡ true → s.len ≡ 4) ss

section_entries : (e : List ℕ) (l : Layout) (i : ℕ) → Each (IsShort l) (spans_in e i)
unfolding spans_in
section_entries e l i = elim (cases_Bool (is_kept e i)) [
  | inl kept ↦ rw kept (each-map (IsShort l) (spans e i) (range_with_len 0 (rela_count e i))
      (each-range (λ j. IsShort l (spans e i j)) 0 (rela_count e i) (λ j low high. let entry = is_entry e l i j in (entry.few, entry.lens))))
  | inr dropped ↦ rw dropped tt
]

entries_short : (e : List ℕ) (l : Layout) → Each (IsShort l) (spans_of e)
unfolding spans_of
entries_short e l = each-flat_map (IsShort l) (spans_in e) (range_with_len 0 (count_of e)) (each-range (λ i. Each (IsShort l) (spans_in e i)) 0 (count_of e) (λ i low high. section_entries e l i))

places-append : (l : Layout) (fs gs : List Field) → pointer_places l (fs ++ gs) ≡ pointer_places l fs ++ pointer_places l gs
places-append l fs gs = ap (map (λ f. off l f.place)) (filter-append (λ f. f.recorded) fs gs) ∙ map-append (λ f. off l f.place) (pointers fs) (pointers gs)

-- pieces by pieces
places_by : {X : Type 0} (l : Layout) (f : X → List Field) (g : X → List (List Span)) (xs : List X) → Each (λ x. pointer_places l (f x) ≡ flat_map (recorded_places l) (g x)) xs
    → pointer_places l (flat_map f xs) ≡ flat_map (recorded_places l) (flat_map g xs)
places_by l f g [] a = refl
places_by l f g (x ∷ xs) a =
    places-append l (f x) (flat_map f xs) ∙ ap (λ ps. ps ++ pointer_places l (flat_map f xs)) a.0
    ∙ ap (λ ps. flat_map (recorded_places l) (g x) ++ ps) (places_by l f g xs a.1)
    ∙ sym (flat_map-append (recorded_places l) (g x) (flat_map g xs))

map_pieces : {X Y : Type 0} (f : X → Y) (xs : List X) → flat_map (λ x. f x ∷ []) xs ≡ map f xs
map_pieces f [] = refl
map_pieces f (x ∷ xs) = ap (λ ys. f x ∷ ys) (map_pieces f xs)

append_nil : {X : Type 0} (xs : List X) → xs ++ [] ≡ xs
append_nil [] = refl
append_nil (x ∷ xs) = ap (λ ys. x ∷ ys) (append_nil xs)

section_places : (e : List ℕ) (l : Layout) (i : ℕ) → pointer_places l (fields_in e 0 i) ≡ flat_map (recorded_places l) (spans_in e i)
unfolding fields_in spans_in
section_places e l i = elim (cases_Bool (is_kept e i)) [
  | inl kept ↦ rw kept (places_by l (fields e 0 i) (λ j. spans e i j ∷ []) (range_with_len 0 (rela_count e i))
      (each-range (λ j. pointer_places l (fields e 0 i j) ≡ flat_map (recorded_places l) (spans e i j ∷ [])) 0 (rela_count e i)
      (λ j low high. (is_entry e l i j).places ∙ sym (append_nil (recorded_places l (spans e i j)))))
      ∙ ap (flat_map (recorded_places l)) (map_pieces (spans e i) (range_with_len 0 (rela_count e i))))
  | inr dropped ↦ rw dropped refl
]

-- the recorded places of the entries are those of the pointers
pub places_of_spans : (e : List ℕ) (l : Layout) → pointer_places l (fields_of e 0) ≡ flat_map (recorded_places l) (spans_of e)
unfolding fields_of spans_of
places_of_spans e l = places_by l (fields_in e 0) (spans_in e) (range_with_len 0 (count_of e))
    (each-range (λ i. pointer_places l (fields_in e 0 i) ≡ flat_map (recorded_places l) (spans_in e i)) 0 (count_of e) (λ i low high. section_places e l i))

-- ---- lists of entries

pub none_lowest : (ns : List ℕ) → lowest ns ≡ None → ns ≡ []
none_lowest [] none = refl
none_lowest (n ∷ ns) none = absurd (cc)

append_empty : (xs ys : List ℕ) → xs ++ ys ≡ [] → (xs ≡ []) × (ys ≡ [])
append_empty [] ys empty = (refl, empty)
append_empty (x ∷ xs) ys empty = absurd (cc)

pieces_empty : (f : ℕ → List ℕ) (a n k : ℕ) → flat_map f (range_with_len a n) ≡ [] → a ≤ k → k < a + n → f k ≡ []
pieces_empty f a zero k empty low high = absurd (omega arith)
pieces_empty f a (suc n) k empty low high =
    let parts = append_empty (f a) (flat_map f (range_with_len (a + 1) n)) empty in
    elim (cases_eq a k) [
      | inl here ↦ ap f (sym here) ∙ parts.0
      | inr later ↦ pieces_empty f (a + 1) n k parts.1 (omega arith) (omega arith)
    ]

filter_empty : (test : ℕ → Bool) (ns : List ℕ) (p : ℕ) → filter test ns ≡ [] → has ns p ≡ true → test p ≡ false
filter_empty test [] p empty member = absurd (cc)
filter_empty test (n ∷ ns) p empty member = elim (cases_Bool (test n)) [
  | inl on ↦ absurd (let some = sym (filter_keep test n ns on) ∙ empty in cc)
  | inr out ↦ elim (or_cases (nat_eq n p) (has ns p) member) [
    | inl here ↦ ap test (sym (eqb-true n p here)) ∙ out
    | inr later ↦ filter_empty test ns p (sym (filter_drop test n ns out) ∙ empty) later
  ]
]

only_member : (ns : List ℕ) (p q : ℕ) → length ns ≤ 1 → has ns p ≡ true → has ns q ≡ true → p ≡ q
only_member [] p q few a b = absurd (cc)
only_member (n ∷ []) p q few a b = elim (or_cases (nat_eq n p) false a) [
  | inl here ↦ elim (or_cases (nat_eq n q) false b) [
    | inl there ↦ sym (eqb-true n p here) ∙ eqb-true n q there
    | inr never ↦ absurd (cc)
  ]
  | inr never ↦ absurd (cc)
]
only_member (n ∷ m ∷ ns) p q few a b = absurd (omega arith)

-- the entry that has a place
record Located (l : Layout) (es : List (List Span)) (p : ℕ) : Type 0 where
  index : ℕ
  below : index < length es
  member : has (recorded_places l (slice_index_or es index [])) p ≡ true

has_parts : (xs ys : List ℕ) (p : ℕ) → has (xs ++ ys) p ≡ true → (has xs p ≡ true) ⊎ (has ys p ≡ true)
has_parts [] ys p member = inr member
has_parts (x ∷ xs) ys p member = elim (or_cases (nat_eq x p) (has (xs ++ ys) p) member) [
  | inl here ↦ inl (or_left (nat_eq x p) (has xs p) here)
  | inr later ↦ elim (has_parts xs ys p later) [
    | inl first ↦ inl (or_right (nat_eq x p) (has xs p) first)
    | inr second ↦ inr second
  ]
]

located : (l : Layout) (es : List (List Span)) (p : ℕ) → has (flat_map (recorded_places l) es) p ≡ true → Located l es p
located l [] p member = absurd (cc)
located l (ss ∷ es) p member = elim (has_parts (recorded_places l ss) (flat_map (recorded_places l) es) p member) [
  | inl here ↦ record { index = 0; below = omega arith; member = here }
  | inr later ↦ let at = located l es p later in let below = at.below in record { index = suc at.index; below = omega arith; member = at.member }
]

each_index : {X : Type 0} (P : X → Type 0) (xs : List X) (d : X) (k : ℕ) → Each P xs → k < length xs → P (get_or xs k d)
each_index P [] d k a below = absurd (omega arith)
each_index P (x ∷ xs) d zero a below = a.0
each_index P (x ∷ xs) d (suc k) a below = each_index P xs d k a.1 (omega arith)

each_parts : {X : Type 0} (P : X → Type 0) (xs ys : List X) → Each P (xs ++ ys) → (Each P xs) × (Each P ys)
each_parts P [] ys a = (tt, a)
each_parts P (x ∷ xs) ys a = let rest = each_parts P xs ys a.1 in ((a.0, rest.0), rest.1)

each_piece : (P : Span → Type 0) (es : List (List Span)) (k : ℕ) → Each P (flat_map (λ ss. ss) es) → k < length es → Each P (get_or es k [])
each_piece P [] k a below = absurd (omega arith)
each_piece P (ss ∷ es) zero a below = (each_parts P ss (flat_map (λ ss. ss) es) a).0
each_piece P (ss ∷ es) (suc k) a below = each_piece P es k (each_parts P ss (flat_map (λ ss. ss) es) a).1 (omega arith)

each_other : (P : Span → Type 0) (es : List (List Span)) (k m : ℕ) → Each P (others k es) → m < length es → (m ≡ k → ⊥) → Each P (get_or es m [])
each_other P es k m a below other =
    let split = each_parts P (flat_map (λ ss. ss) (take k es)) (flat_map (λ ss. ss) (drop (k + 1) es)) (let Q : List Span → Type 0 = Each P in subst Q (flat_map-append (λ ss. ss) (take k es) (drop (k + 1) es)) a) in
    elim (cases_lt m k) [
      | inl before ↦ let Q : List Span → Type 0 = Each P in subst Q (get_or-take k es m [] before) (each_piece P (take k es) m split.0 (omega (arith, length-take k es)))
      | inr from ↦
          let past : k + 1 ≤ m = omega (arith, other) in
          let at : (k + 1) + (m - (k + 1)) ≡ m = omega arith in
          let Q : List Span → Type 0 = Each P in
          subst Q (get_or-drop (k + 1) es (m - (k + 1)) [] ∙ ap (λ i. get_or es i []) at) (each_piece P (drop (k + 1) es) (m - (k + 1)) split.1 (omega (arith, length-drop (k + 1) es)))
    ]

-- ---- recorded words that meet

near_common : (p q : ℕ) → p < q + 4 → q < p + 4 → max p q < min (p + 4) (q + 4)
near_common p q low high = omega arith

near_meets : (l : Layout) (p : ℕ) (s : Span) → s.recorded ≡ true → s.len ≡ 4 → is_near p (off l s.place) ≡ true → meets l p s ≡ false → p ≡ off l s.place
unfolding is_near
near_meets l p s on len near none =
    let parts = and_parts (nat_lt p (off l s.place + 4)) (nat_lt (off l s.place) (p + 4)) near in
    let low = ltb-true p (off l s.place + 4) parts.0 in
    let high = ltb-true (off l s.place) (p + 4) parts.1 in
    let common : nat_lt (max p (off l s.place)) (min (p + 4) (off l s.place + s.len)) ≡ true = lt-ltb _ _ (rw len (near_common p (off l s.place) low high)) in
    elim (cases_Bool (nat_eq (off l s.place) p)) [
      | inl same ↦ sym (eqb-true (off l s.place) p same)
      | inr other ↦ absurd (let is = rw (common, on, other) at none in cc)
    ]

met_place : (l : Layout) (p q : ℕ) (ss : List Span) → Each (λ s. s.recorded ≡ true → s.len ≡ 4) ss → Each (λ s. meets l p s ≡ false) ss → has (recorded_places l ss) q ≡ true
    → is_near p q ≡ true → p ≡ q
met_place l p q [] lens none member near = absurd (cc)
met_place l p q (s ∷ ss) lens none member near = elim (cases_Bool s.recorded) [
  | inl on ↦
      let kept = ap (map (λ s. off l s.place)) (filter_keep (λ s. s.recorded) s ss on) in
      elim (or_cases (nat_eq (off l s.place) q) (has (recorded_places l ss) q) (sym (ap (λ ns. has ns q) kept) ∙ member)) [
        | inl here ↦
            let same = eqb-true (off l s.place) q here in
            near_meets l p s on (lens.0 on) (ap (is_near p) same ∙ near) none.0 ∙ same
        | inr later ↦ met_place l p q ss lens.1 none.1 later near
      ]
  | inr still ↦ met_place l p q ss lens.1 none.1 (sym (ap (λ ss. has (map (λ s. off l s.place) ss) q) (filter_drop (λ s. s.recorded) s ss still)) ∙ member) near
]

-- where no word meets another entry's bytes, near recorded places are one place
pub places_apart : (e : List ℕ) (p q : ℕ) → word_overlap e ≡ None → has (pointer_places (layout e) (fields_of e 0)) p ≡ true → has (pointer_places (layout e) (fields_of e 0)) q ≡ true
    → is_near p q ≡ true → p ≡ q
unfolding word_overlap
places_apart e p q none p_in q_in near =
    let l = layout e in
    let es = spans_of e in
    let same = places_of_spans e l in
    let here = located l es p (sym (ap (λ ns. has ns p) same) ∙ p_in) in
    let there = located l es q (sym (ap (λ ns. has ns q) same) ∙ q_in) in
    let short = entries_short e l in
    let here_short = each_index (IsShort l) es [] here.index short here.below in
    let there_short = each_index (IsShort l) es [] there.index short there.below in
    elim (cases_eq there.index here.index) [
      | inl one ↦ only_member (recorded_places l (get_or es here.index [])) p q here_short.0 here.member (ap (λ i. has (recorded_places l (get_or es i [])) q) (sym one) ∙ there.member)
      | inr other ↦
          let hbelow = here.below in
          let empty = pieces_empty (met_words l es) 0 (length es) here.index (none_lowest _ none) (omega arith) (omega arith) in
          let clear = filter_empty (λ p. list_any (meets l p) (others here.index es)) (recorded_places l (get_or es here.index [])) p empty here.member in
          met_place l p q (get_or es there.index []) there_short.1
          (each_other (λ s. meets l p s ≡ false) es here.index there.index (each_fails (meets l p) (others here.index es) clear) there.below other)
          there.member near
    ]
