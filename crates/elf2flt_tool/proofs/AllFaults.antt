-- The first of all faults of a file is its first fault.
use Rattle.std.proofs.Common.{◌≡◌, ℕ, zero, suc, ◌+◌, ◌<◌, ◌≤◌, inl, inr, Bool, true, false, not, ◌&&◌, ◌||◌, List, [], ◌∷◌, ◌++◌, map, flat_map, filter, length, Option, Some, None, refl, sym, ap, ◌∙◌, arith, eq-eqb, if◌then◌else◌}
use Rattle.std.specs.List.{range_with_len, list_any, slice_index_or, AllByRecursion as Each}
use Rattle.std.specs.Option.{option_map, option_or, option_to_list, is_none}
use Rattle.std.proofs.lemmas.Bool.{cases_Bool, cases_lt, and_from, both_ways}
use Rattle.std.proofs.lemmas.List.{map-append, length-map}
use Rattle.std.proofs.lemmas.List.Concat.{flat_map-append}
use Rattle.std.proofs.lemmas.List.Elements.{filter-append}
use Rattle.byte_words.specs.Search.{any_below, first}
use Rattle.byte_words.proofs.Searches.{any_below_zero, any_below_suc, any_below_none, any_below_found, or_parts as either}
use Rattle.elf32_reader.specs.declared.fault.ElfFault.{ElfFault}
use Rattle.elf32_reader.specs.declared.fault.ElfFault.TheVariants.{SectionRange, SymbolRange, RelaShape}
use Rattle.elf32_reader.specs.Header.{count_of}
use Rattle.elf32_reader.specs.Sections.{section}
use Rattle.elf32_reader.specs.Relas.{is_kept, rela_count}
use Rattle.elf32_reader.specs.Faults.{passes_end, is_bad_symtab, is_bad_rela, header_fault, section_fault, elf_fault}
use Rattle.elf32_reader.specs.Heads as heads
use Rattle.flat_layout.specs.declared.fault.LayoutFault.{LayoutFault}
use Rattle.flat_layout.specs.declared.fault.LayoutFault.TheVariants.{NoSections, TooLarge, Overlap, Dynamic, Tls, EntryOutside}
use Rattle.flat_layout.specs.Extremes.{greatest_below}
use Rattle.flat_layout.specs.Numbering.{is_laid_out, end_of, highest}
use Rattle.flat_layout.specs.Layout.{layout, size_of}
use Rattle.flat_layout.specs.Fault.{has_sections, ends_too_high, some_ends_too_high, is_too_large, has_overlap, has_dynamic, has_tls, is_entry_outside, layout_fault}
use Rattle.flat_layout.specs.Rows.{has_numbers, ends_image, is_too_high, row_holds}
use Rattle.flat_layout.proofs.Bounds.{greatest_taken, greatest_passed, greatest_le}
use Rattle.flat_layout.proofs.Facts.{clear_numbers}
use Rattle.psabi_relocs.specs.declared.spans.Span.{Span}
use Rattle.psabi_relocs.specs.declared.fault.RelocFault.{RelocFault}
use Rattle.psabi_relocs.specs.Field.{Field, fields}
use Rattle.psabi_relocs.specs.Effect.{effect, spans}
use Rattle.psabi_relocs.specs.Fault.{reloc_fault}
use Rattle.elf2flt_tool.specs.declared.refusal.Refusal.{Refusal}
use Rattle.elf2flt_tool.specs.declared.refusal.Refusal.TheVariants as refusals
use Rattle.elf2flt_tool.specs.declared.fault.Fault.{Fault}
use Rattle.elf2flt_tool.specs.declared.fault.Fault.TheVariants as every
use Rattle.elf2flt_tool.specs.declared.entry_word.EntryWord.{EntryWord}
use Rattle.elf2flt_tool.specs.Relocs.{fields_in, fields_of, spans_in, spans_of}
use Rattle.elf2flt_tool.specs.Image.{pointers}
use Rattle.elf2flt_tool.specs.Word.{numbered, words, places, lowest, points_outside, recorded_places, met_words, target_outside, word_overlap}
use Rattle.elf2flt_tool.specs.Fault.{first_some, entry_fault, section_fault as kept_fault, relocs_fault, address_of, target_fault, overlap_fault, words_fault, fault_from_layout, fault_from_elf, fault}
use Rattle.elf2flt_tool.specs.Faults.{elf_in, row_of, section_faults, elf_faults, layout_in, overlap_in, rows_faults, layout_faults, Entry, entry_at, entries_in, entries, reloc_faults, sound_spans, word_of, at_entry, outside_of, met_of, by_place, stored_len, target_at, overlap_at, outside_words, overlapping_words, words_faults, read_faults, faults, refusal_of, first_refusal}
use Rattle.elf2flt_tool.proofs.Members.{each-flat_map, each-map, each-range, each-weaker, map_map, map_same}
use Rattle.elf2flt_tool.proofs.Recorded.{all_sound}
use Rattle.elf2flt_tool.proofs.Walked.{flat_map-more}
use Rattle.elf2flt_tool.proofs.EntryWords.{words_effect, effect_places, entry_within, kept_some, kept_none, first_by_place}

-- ---- the first of two lists

pub first_append : (l m : List Fault) → first_refusal (l ++ m) ≡ option_or (first_refusal l) (first_refusal m)
first_append [] m = refl
first_append (f ∷ l) m = refl

some_first : (o : Option Refusal) (r : Refusal) (p : Option Refusal) → o ≡ Some r → option_or o p ≡ Some r
some_first o r p is = rw is refl

none_first : (o p : Option Refusal) → o ≡ None → option_or o p ≡ p
none_first o p is = rw is refl

empty : (l : List Fault) → first_refusal l ≡ None → l ≡ []
empty [] none = refl
empty (f ∷ l) none = absurd cc

-- ---- a row, of each section that it holds of

-- the list of a row: its refusal first where the row holds, and nothing where it doesn't
abbrev IsRow : Bool → Refusal → List Fault → Type 0
IsRow b r l = first_refusal l ≡ (if b then Some r else None)

row_list : (f : ℕ → Fault) (r : Refusal) → ((i : ℕ) → refusal_of (f i) ≡ r) → (p : ℕ → Bool) (ks : List ℕ) (b : Bool) → list_any p ks ≡ b → IsRow b r (map f (filter p ks))
row_list f r is p ks true some = let kept = kept_some p ks some in rw kept.is (ap Some (is kept.first))
row_list f r is p ks false none = rw (kept_none p ks none) refl

-- ---- the sections of a file

section_row : (e : List ℕ) (f : ElfFault) (p : ℕ → Bool) → heads.row_holds (row_of f) e ≡ p → any_below p (count_of e) ≡ true → first_refusal (section_faults e (Some f)) ≡ Some (refusals.Elf f)
unfolding any_below
section_row e f p same some =
    row_list (elf_in f) (refusals.Elf f) (λ i. refl) (heads.row_holds (row_of f) e) (range_with_len 0 (count_of e)) true (ap (λ q. list_any q (range_with_len 0 (count_of e))) same ∙ some)

range_row : (e : List ℕ) → heads.row_holds 10 e ≡ passes_end e
unfolding heads.row_holds
range_row e = refl

symbol_row : (e : List ℕ) → heads.row_holds 11 e ≡ is_bad_symtab e
unfolding heads.row_holds
symbol_row e = refl

rela_row : (e : List ℕ) → heads.row_holds 12 e ≡ is_bad_rela e
unfolding heads.row_holds
rela_row e = refl

three_rows : (e : List ℕ) (a b c : Bool) → any_below (passes_end e) (count_of e) ≡ a → any_below (is_bad_symtab e) (count_of e) ≡ b → any_below (is_bad_rela e) (count_of e) ≡ c
    → first_refusal (section_faults e (first ((a, SectionRange) ∷ (b, SymbolRange) ∷ (c, RelaShape) ∷ []))) ≡ option_map refusals.Elf (first ((a, SectionRange) ∷ (b, SymbolRange) ∷ (c, RelaShape) ∷ []))
three_rows e true b c x y z = section_row e SectionRange (passes_end e) (range_row e) x
three_rows e false true c x y z = section_row e SymbolRange (is_bad_symtab e) (symbol_row e) y
three_rows e false false true x y z = section_row e RelaShape (is_bad_rela e) (rela_row e) z
three_rows e false false false x y z = refl

sections_first : (e : List ℕ) → first_refusal (section_faults e (section_fault e)) ≡ option_map refusals.Elf (section_fault e)
unfolding section_fault
sections_first e = three_rows e _ _ _ refl refl refl

elf_first : (e : List ℕ) (h : Option ElfFault) → first_refusal (elf_faults e h) ≡ option_map refusals.Elf (option_or h (section_fault e))
elf_first e None = sections_first e
elf_first e (Some f) = refl

-- ---- the rows of the layout

-- H is the end of a section, where there is one
record IsAttained (takes : ℕ → Bool) (f : ℕ → ℕ) (n : ℕ) : Type 0 where
  index : ℕ
  below : index < n
  taken : takes index ≡ true
  is : f index ≡ greatest_below takes f n

none_greatest : (takes : ℕ → Bool) (f : ℕ → ℕ) (n : ℕ) → any_below takes n ≡ false → greatest_below takes f n ≤ 0
none_greatest takes f n none = greatest_le takes f n 0 (λ k below taken. absurd (both_ways (takes k) (any_below_none takes n k none below) taken))

attained : (takes : ℕ → Bool) (f : ℕ → ℕ) (n : ℕ) → any_below takes n ≡ true → IsAttained takes f n
attained takes f zero some = absurd (let none = any_below_zero takes in cc)
attained takes f (suc n) some = elim (cases_Bool (takes n)) [
  | inl taken ↦ elim (cases_lt (f n) (greatest_below takes f n)) [
    | inl less ↦ elim (cases_Bool (any_below takes n)) [
      | inl earlier ↦
          let found = attained takes f n earlier in
          let step = greatest_taken takes f n taken in
          let at = found.is in
          record { index = found.index; below = (let low = found.below in omega arith); taken = found.taken; is = omega arith }
      | inr none ↦ absurd (let zero_is = none_greatest takes f n none in omega arith)
    ]
    | inr most ↦ (let step = greatest_taken takes f n taken in record { index = n; below = omega arith; taken = taken; is = omega arith })
  ]
  | inr passed ↦
      let earlier : any_below takes n ≡ true = last (any_below takes n) (takes n) passed (sym (any_below_suc takes n) ∙ some) in
      let found = attained takes f n earlier in
      let step = greatest_passed takes f n passed in
      let at = found.is in
      record { index = found.index; below = (let low = found.below in omega arith); taken = found.taken; is = omega arith }
]
  where
    last : (a b : Bool) → b ≡ false → (a || b) ≡ true → a ≡ true
    last true b fails is = refl
    last false b fails is = absurd cc

-- the first index that passes
record IsFirst (p : ℕ → Bool) (n : ℕ) : Type 0 where
  index : ℕ
  below : index < n
  passes : p index ≡ true
  none : any_below p index ≡ false

first_one : (p : ℕ → Bool) (n : ℕ) → any_below p n ≡ true → IsFirst p n
first_one p zero some = absurd (let none = any_below_zero p in cc)
first_one p (suc n) some = elim (cases_Bool (any_below p n)) [
  | inl earlier ↦ (let found = first_one p n earlier in record { index = found.index; below = (let low = found.below in omega arith); passes = found.passes; none = found.none })
  | inr none ↦ record { index = n; below = omega arith; passes = last (any_below p n) (p n) none (sym (any_below_suc p n) ∙ some); none = none }
]
  where
    last : (a b : Bool) → a ≡ false → (a || b) ≡ true → b ≡ true
    last true b fails is = absurd cc
    last false b fails is = is

-- row 2 holds of some section exactly where the image is too large
high_row : (e : List ℕ) → some_ends_too_high e ≡ true → row_holds 2 e ≡ (λ i. ends_too_high (section e i))
unfolding row_holds is_too_high
high_row e some = (λ i k. ap (λ b. if b then ends_too_high (section e k) else (ends_image e k && is_too_large e && not (any_below (ends_image e) k))) some i)

wide_row : (e : List ℕ) → some_ends_too_high e ≡ false → row_holds 2 e ≡ (λ i. ends_image e i && is_too_large e && not (any_below (ends_image e) i))
unfolding row_holds is_too_high
wide_row e none = (λ i k. ap (λ b. if b then ends_too_high (section e k) else (ends_image e k && is_too_large e && not (any_below (ends_image e) k))) none i)

some_high : (e : List ℕ) → some_ends_too_high e ≡ true → list_any (λ i. ends_too_high (section e i)) (range_with_len 0 (count_of e)) ≡ true
unfolding some_ends_too_high any_below
some_high e some = some

image_end : (e : List ℕ) → has_sections e ≡ true → any_below (ends_image e) (count_of e) ≡ true
unfolding has_sections highest
image_end e some =
    let at = attained (λ i. is_laid_out (section e i)) (λ i. end_of (section e i)) (count_of e) some in
    any_below_found (ends_image e) (count_of e) at.index at.below (and_from _ _ at.taken (eq-eqb _ _ at.is))

any_range : (p : ℕ → Bool) (n k : ℕ) → k < n → p k ≡ true → list_any p (range_with_len 0 n) ≡ true
unfolding any_below
any_range p n k below passes = any_below_found p n k below passes

no_range : (p : ℕ → Bool) (n : ℕ) → ((k : ℕ) → p k ≡ false) → list_any p (range_with_len 0 n) ≡ false
no_range p n none = none_in (range_with_len 0 n)
  where
    none_in : (ks : List ℕ) → list_any p ks ≡ false
    none_in [] = refl
    none_in (k ∷ ks) = rw (none k) (none_in ks)

large_parts : (e : List ℕ) → is_too_large e ≡ false → some_ends_too_high e ≡ false
unfolding is_too_large
large_parts e none = (either (some_ends_too_high e) _ none).0

large_from : (e : List ℕ) → some_ends_too_high e ≡ true → is_too_large e ≡ true
unfolding is_too_large
large_from e some = rw some refl

large_row : (e : List ℕ) → has_sections e ≡ true → (b : Bool) → is_too_large e ≡ b → list_any (row_holds 2 e) (range_with_len 0 (count_of e)) ≡ b
large_row e sections true large = elim (cases_Bool (some_ends_too_high e)) [
  | inl high ↦ rw (high_row e high) (some_high e high)
  | inr none ↦
      let found = first_one (ends_image e) (count_of e) (image_end e sections) in
      rw (wide_row e none) (any_range (λ i. ends_image e i && is_too_large e && not (any_below (ends_image e) i)) (count_of e) found.index found.below
      (and_from _ _ (and_from _ _ found.passes large) (ap not found.none)))
]
large_row e sections false small =
    rw (wide_row e (large_parts e small)) (no_range (λ i. ends_image e i && is_too_large e && not (any_below (ends_image e) i)) (count_of e)
    (λ k. small_at (ends_image e k) (is_too_large e) (not (any_below (ends_image e) k)) small))
  where
    small_at : (a b c : Bool) → b ≡ false → (a && b && c) ≡ false
    small_at true true c fails = absurd cc
    small_at true false c fails = refl
    small_at false b c fails = refl

-- the others by their definitions
overlap_row : (e : List ℕ) → list_any (row_holds 3 e) (range_with_len 0 (count_of e)) ≡ has_overlap e
unfolding row_holds has_overlap any_below
overlap_row e = refl

dynamic_row : (e : List ℕ) → list_any (row_holds 4 e) (range_with_len 0 (count_of e)) ≡ has_dynamic e
unfolding row_holds has_dynamic any_below
dynamic_row e = refl

tls_row : (e : List ℕ) → list_any (row_holds 5 e) (range_with_len 0 (count_of e)) ≡ has_tls e
unfolding row_holds has_tls any_below
tls_row e = refl

-- one row before others
row_before : (b : Bool) (f : LayoutFault) (rows : List (Bool × LayoutFault)) (l m : List Fault) → IsRow b (refusals.Layout f) l
    → first_refusal m ≡ option_map refusals.Layout (first rows) → first_refusal (l ++ m) ≡ option_map refusals.Layout (first ((b, f) ∷ rows))
row_before true f rows l m here rest = first_append l m ∙ some_first _ _ _ here
row_before false f rows l m here rest = first_append l m ∙ none_first _ _ here ∙ rest

entry_row : (b : Bool) → first_refusal (if b then layout_in EntryOutside 0 ∷ [] else []) ≡ option_map refusals.Layout (first ((b, EntryOutside) ∷ []))
entry_row true = refl
entry_row false = refl

rows_first : (e : List ℕ) → has_sections e ≡ true
    → first_refusal (rows_faults e) ≡ option_map refusals.Layout (first ((is_too_large e, TooLarge) ∷ (has_overlap e, Overlap) ∷ (has_dynamic e, Dynamic) ∷ (has_tls e, Tls) ∷ (is_entry_outside e, EntryOutside) ∷ []))
unfolding rows_faults
rows_first e sections =
    let all = range_with_len 0 (count_of e) in
    row_before _ TooLarge ((has_overlap e, Overlap) ∷ (has_dynamic e, Dynamic) ∷ (has_tls e, Tls) ∷ (is_entry_outside e, EntryOutside) ∷ []) _ _ (row_list (layout_in TooLarge) (refusals.Layout TooLarge) (λ i. refl) (row_holds 2 e) all _ (large_row e sections _ refl))
    (row_before _ Overlap ((has_dynamic e, Dynamic) ∷ (has_tls e, Tls) ∷ (is_entry_outside e, EntryOutside) ∷ []) _ _ (row_list (overlap_in e) (refusals.Layout Overlap) (λ i. refl) (row_holds 3 e) all _ (overlap_row e))
    (row_before _ Dynamic ((has_tls e, Tls) ∷ (is_entry_outside e, EntryOutside) ∷ []) _ _ (row_list (layout_in Dynamic) (refusals.Layout Dynamic) (λ i. refl) (row_holds 4 e) all _ (dynamic_row e))
    (row_before _ Tls ((is_entry_outside e, EntryOutside) ∷ []) _ _ (row_list (layout_in Tls) (refusals.Layout Tls) (λ i. refl) (row_holds 5 e) all _ (tls_row e))
    (entry_row (is_entry_outside e)))))

layout_first : (e : List ℕ) → first_refusal (layout_faults e) ≡ option_map refusals.Layout (layout_fault e)
unfolding layout_faults layout_fault
layout_first e = by (has_sections e) refl
  where
    rest : List (Bool × LayoutFault)
    rest = (is_too_large e, TooLarge) ∷ (has_overlap e, Overlap) ∷ (has_dynamic e, Dynamic) ∷ (has_tls e, Tls) ∷ (is_entry_outside e, EntryOutside) ∷ []

    by : (b : Bool) → has_sections e ≡ b → first_refusal (if b then rows_faults e else layout_in NoSections 0 ∷ []) ≡ option_map refusals.Layout (first ((not b, NoSections) ∷ rest))
    by true some = rows_first e some
    by false none = refl

-- ---- a list along the entries

flat_flat : {X Y Z : Type 0} (f : Y → List Z) (g : X → List Y) (xs : List X) → flat_map f (flat_map g xs) ≡ flat_map (λ x. flat_map f (g x)) xs
flat_flat f g [] = refl
flat_flat f g (x ∷ xs) = flat_map-append f (g x) (flat_map g xs) ∙ ap (λ zs. flat_map f (g x) ++ zs) (flat_flat f g xs)

pub flat_mapped : {X Y Z : Type 0} (f : Y → List Z) (g : X → Y) (xs : List X) → flat_map f (map g xs) ≡ flat_map (λ x. f (g x)) xs
flat_mapped f g [] = refl
flat_mapped f g (x ∷ xs) = ap (λ zs. f (g x) ++ zs) (flat_mapped f g xs)

pub flat_same : {X Y : Type 0} (f g : X → List Y) (xs : List X) → Each (λ x. f x ≡ g x) xs → flat_map f xs ≡ flat_map g xs
flat_same f g [] a = refl
flat_same f g (x ∷ xs) a = rw (a.0, flat_same f g xs a.1) refl

-- what each entry of a section gives
abbrev along : {Y : Type 0} → List ℕ → (ℕ → ℕ → List Y) → ℕ → List Y
along e g i = if is_kept e i then flat_map (g i) (range_with_len 0 (rela_count e i)) else []

entries_along : {Y : Type 0} (e : List ℕ) (h : Entry → List Y) → flat_map h (entries e) ≡ flat_map (along e (λ i j. h (entry_at i j))) (range_with_len 0 (count_of e))
unfolding entries entries_in
entries_along {Y} e h = flat_flat h (entries_in e) (range_with_len 0 (count_of e)) ∙ flat_same _ _ (range_with_len 0 (count_of e)) (all (range_with_len 0 (count_of e)))
  where
    at : (i : ℕ) (b : Bool) → flat_map h (if b then map (entry_at i) (range_with_len 0 (rela_count e i)) else []) ≡ (if b then flat_map (λ j. h (entry_at i j)) (range_with_len 0 (rela_count e i)) else [])
    at i true = flat_mapped h (entry_at i) (range_with_len 0 (rela_count e i))
    at i false = refl

    all : (ks : List ℕ) → Each (λ i. flat_map h (entries_in e i) ≡ along e (λ i j. h (entry_at i j)) i) ks
    all [] = tt
    all (k ∷ ks) = (at k (is_kept e k), all ks)

-- what holds of each entry of a kept section
pub each_entry : (e : List ℕ) (P : Entry → Type 0) → ((i j : ℕ) → i < count_of e → is_kept e i ≡ true → j < rela_count e i → P (entry_at i j)) → Each P (entries e)
unfolding entries entries_in
each_entry e P holds =
    each-flat_map P (entries_in e) (range_with_len 0 (count_of e))
    (each-range (λ i. Each P (entries_in e i)) 0 (count_of e) (λ i low high. at i (omega arith)))
  where
    at : (i : ℕ) → i < count_of e → Each P (if is_kept e i then map (entry_at i) (range_with_len 0 (rela_count e i)) else [])
    at i below = elim (cases_Bool (is_kept e i)) [
      | inl kept ↦ rw kept (each-map P (entry_at i) (range_with_len 0 (rela_count e i)) (each-range (λ j. P (entry_at i j)) 0 (rela_count e i) (λ j low high. holds i j below kept (omega arith))))
      | inr other ↦ rw other tt
    ]

-- ---- the first fault of an entry

first_along : (g : ℕ → List Fault) (f : ℕ → Option Refusal) → ((i : ℕ) → first_refusal (g i) ≡ f i) → (n : ℕ) → first_refusal (flat_map g (range_with_len 0 n)) ≡ first_some f n
unfolding first_some
first_along g f is zero = refl
first_along g f is (suc n) =
    ap (λ k. first_refusal (flat_map g (range_with_len 0 k))) (let next : suc n ≡ n + 1 = omega arith in next) ∙ ap first_refusal (flat_map-more g n)
    ∙ first_append (flat_map g (range_with_len 0 n)) (g n) ∙ rw (first_along g f is n, is n) refl

one_first : (i j : ℕ) (o : Option RelocFault) → first_refusal (option_to_list (option_map (every.Reloc i j) o)) ≡ option_map (refusals.Reloc i j) o
one_first i j None = refl
one_first i j (Some f) = refl

relocs_first : (e : List ℕ) → first_refusal (flat_map (reloc_faults e) (entries e)) ≡ relocs_fault e
unfolding relocs_fault kept_fault entry_fault reloc_faults
relocs_first e =
    ap first_refusal (entries_along e (reloc_faults e))
    ∙ first_along (along e (λ i j. reloc_faults e (entry_at i j))) (kept_fault e) (λ i. at i (is_kept e i)) (count_of e)
  where
    at : (i : ℕ) (b : Bool) → first_refusal (if b then flat_map (λ j. reloc_faults e (entry_at i j)) (range_with_len 0 (rela_count e i)) else []) ≡ (if b then first_some (entry_fault e i) (rela_count e i) else None)
    at i true = first_along (λ j. reloc_faults e (entry_at i j)) (entry_fault e i) (λ j. one_first i j (reloc_fault e i j)) (rela_count e i)
    at i false = refl

-- ---- where no entry has a fault

sound_each : (e : List ℕ) → relocs_fault e ≡ None → Each (λ x. reloc_fault e x.section x.index ≡ None) (entries e)
sound_each e none = each_entry e (λ x. reloc_fault e x.section x.index ≡ None) (λ i j below kept less. all_sound e i none below kept j less)

-- the numbers of the words that point outside

abbrev numbers_outside : List ℕ → Entry → List ℕ
numbers_outside e x = places (filter (points_outside (size_of (layout e))) (map (numbered (layout e)) (pointers (fields e 0 x.section x.index))))

entry_places : (e : List ℕ) (x : Entry) → reloc_fault e x.section x.index ≡ None → map (λ w. w.place) (outside_of e x) ≡ numbers_outside e x
unfolding outside_of
entry_places e x none =
    rw none (map_map (λ w. w.place) (λ w. at_entry x w.place) (filter (points_outside (size_of (layout e))) (word_of (layout e) (effect e x.section x.index)))
    ∙ ap (λ ws. places (filter (points_outside (size_of (layout e))) ws)) (words_effect e x.section x.index))

mapped_flat : {X Y Z : Type 0} (f : Y → Z) (g : X → List Y) (xs : List X) → map f (flat_map g xs) ≡ flat_map (λ x. map f (g x)) xs
mapped_flat f g [] = refl
mapped_flat f g (x ∷ xs) = map-append f (g x) (flat_map g xs) ∙ ap (λ zs. map f (g x) ++ zs) (mapped_flat f g xs)

filtered_flat : {X Y : Type 0} (p : Y → Bool) (g : X → List Y) (xs : List X) → filter p (flat_map g xs) ≡ flat_map (λ x. filter p (g x)) xs
filtered_flat p g [] = refl
filtered_flat p g (x ∷ xs) = filter-append p (g x) (flat_map g xs) ∙ ap (λ zs. filter p (g x) ++ zs) (filtered_flat p g xs)

-- the fields of the file, along its entries
fields_along : (e : List ℕ) → fields_of e 0 ≡ flat_map (λ x. fields e 0 x.section x.index) (entries e)
unfolding fields_of fields_in
fields_along e = sym (entries_along e (λ x. fields e 0 x.section x.index))

outside_numbers : (e : List ℕ) → relocs_fault e ≡ None → map (λ w. w.place) (outside_words e) ≡ places (filter (points_outside (size_of (layout e))) (words e))
unfolding outside_words words
outside_numbers e none =
    let xs = entries e in
    let l = layout e in
    let h : Entry → List Field = λ x. fields e 0 x.section x.index in
    mapped_flat (λ w. w.place) (outside_of e) xs
    ∙ flat_same _ _ xs (each-weaker (λ x. reloc_fault e x.section x.index ≡ None) (λ x. map (λ w. w.place) (outside_of e x) ≡ numbers_outside e x) (entry_places e) xs (sound_each e none))
    ∙ sym (ap (λ fs. places (filter (points_outside (size_of l)) (map (numbered l) (pointers fs)))) (fields_along e)
    ∙ ap (λ fs. places (filter (points_outside (size_of l)) (map (numbered l) fs))) (filtered_flat (λ f. f.recorded) h xs)
    ∙ ap (λ ws. places (filter (points_outside (size_of l)) ws)) (mapped_flat (numbered l) (λ x. pointers (h x)) xs)
    ∙ ap places (filtered_flat (points_outside (size_of l)) (λ x. map (numbered l) (pointers (h x))) xs)
    ∙ mapped_flat (λ w. w.place) (λ x. filter (points_outside (size_of l)) (map (numbered l) (pointers (h x)))) xs)

-- the numbers of the words that meet others

spans_along : (e : List ℕ) → map (λ x. spans e x.section x.index) (entries e) ≡ spans_of e
unfolding entries entries_in spans_of spans_in
spans_along e = mapped_flat (λ x. spans e x.section x.index) (entries_in e) (range_with_len 0 (count_of e)) ∙ flat_same _ _ (range_with_len 0 (count_of e)) (all (range_with_len 0 (count_of e)))
  where
    at : (i : ℕ) (b : Bool) → map (λ x. spans e x.section x.index) (if b then map (entry_at i) (range_with_len 0 (rela_count e i)) else []) ≡ (if b then map (spans e i) (range_with_len 0 (rela_count e i)) else [])
    at i true = map_map (λ x. spans e x.section x.index) (entry_at i) (range_with_len 0 (rela_count e i))
    at i false = refl

    all : (ks : List ℕ) → Each (λ i. map (λ x. spans e x.section x.index) (entries_in e i) ≡ spans_in e i) ks
    all [] = tt
    all (k ∷ ks) = (at k (is_kept e k), all ks)

sound_is : (e : List ℕ) (x : Entry) → reloc_fault e x.section x.index ≡ None → sound_spans e x ≡ spans e x.section x.index
unfolding sound_spans
sound_is e x none = rw none refl

all_spans : (e : List ℕ) → relocs_fault e ≡ None → map (sound_spans e) (entries e) ≡ spans_of e
all_spans e none =
    map_same (sound_spans e) (λ x. spans e x.section x.index) (entries e)
    (each-weaker (λ x. reloc_fault e x.section x.index ≡ None) (λ x. sound_spans e x ≡ spans e x.section x.index) (sound_is e) (entries e) (sound_each e none))
    ∙ spans_along e

met_numbers : (e : List ℕ) (k : ℕ) → map (λ w. w.place) (met_of e k) ≡ met_words (layout e) (map (sound_spans e) (entries e)) k
unfolding met_of
met_numbers e k = map_map (λ w. w.place) (at_entry (slice_index_or (entries e) k (entry_at 0 0))) _ ∙ map_same _ _ _ (all _) ∙ map_same_id _
  where
    all : (ns : List ℕ) → Each (λ n. n ≡ n) ns
    all [] = tt
    all (n ∷ ns) = (refl, all ns)

    map_same_id : (ns : List ℕ) → map (λ (n : ℕ). n) ns ≡ ns
    map_same_id [] = refl
    map_same_id (n ∷ ns) = ap (λ ms. n ∷ ms) (map_same_id ns)

overlap_numbers : (e : List ℕ) → relocs_fault e ≡ None
    → map (λ w. w.place) (overlapping_words e) ≡ flat_map (met_words (layout e) (spans_of e)) (range_with_len 0 (length (spans_of e)))
unfolding overlapping_words
overlap_numbers e none =
    let same = all_spans e none in
    let many : length (entries e) ≡ length (spans_of e) = sym (length-map (entries e) (sound_spans e)) ∙ ap length same in
    mapped_flat (λ w. w.place) (met_of e) (range_with_len 0 (length (entries e)))
    ∙ flat_same _ _ (range_with_len 0 (length (entries e))) (all (range_with_len 0 (length (entries e))))
    ∙ ap (λ es. flat_map (met_words (layout e) es) (range_with_len 0 (length (entries e)))) same
    ∙ ap (λ n. flat_map (met_words (layout e) (spans_of e)) (range_with_len 0 n)) many
  where
    all : (ks : List ℕ) → Each (λ k. map (λ w. w.place) (met_of e k) ≡ met_words (layout e) (map (sound_spans e) (entries e)) k) ks
    all [] = tt
    all (k ∷ ks) = (met_numbers e k, all ks)

-- ---- words by number

-- a number of a word that points outside, or that meets another, is one of text and data
below_text : (e : List ℕ) (x : Entry) (ps : List ℕ) → Each (λ p. p + 4 ≤ stored_len e) ps → Each (λ w. w.place < stored_len e) (map (at_entry x) ps)
below_text e x [] within = tt
below_text e x (p ∷ ps) within = ((let fits = within.0 in let e : p < stored_len e = omega arith in e), below_text e x ps within.1)

each_kept : {X : Type 0} (P : X → Type 0) (test : X → Bool) (xs : List X) → Each P xs → Each P (filter test xs)
each_kept P test [] all = tt
each_kept P test (x ∷ xs) all = elim (cases_Bool (test x)) [
  | inl here ↦ rw here (all.0, each_kept P test xs all.1)
  | inr other ↦ rw other (each_kept P test xs all.1)
]

each_of_map : {X Y : Type 0} (P : Y → Type 0) (f : X → Y) (xs : List X) → Each P (map f xs) → Each (λ x. P (f x)) xs
each_of_map P f [] all = tt
each_of_map P f (x ∷ xs) all = (all.0, each_of_map P f xs all.1)

-- the recorded words of sound entries stand in text and data
pub sound_within : (e : List ℕ) → has_numbers e ≡ true → Each (λ x. Each (λ p. p + 4 ≤ stored_len e) (recorded_places (layout e) (sound_spans e x))) (entries e)
unfolding sound_spans
sound_within e numbers = each_entry e (λ x. Each (λ p. p + 4 ≤ stored_len e) (recorded_places (layout e) (sound_spans e x))) (λ i j below kept less. at i j kept (reloc_fault e i j) refl)
  where
    at : (i j : ℕ) → is_kept e i ≡ true → (o : Option RelocFault) → reloc_fault e i j ≡ o
        → Each (λ p. p + 4 ≤ stored_len e) (recorded_places (layout e) (if is_none o then spans e i j else []))
    at i j kept None none = entry_within e i j numbers kept none
    at i j kept (Some f) some = tt

pub outside_within : (e : List ℕ) → has_numbers e ≡ true → Each (λ w. w.place < stored_len e) (outside_words e)
unfolding outside_words outside_of
outside_within e numbers =
    each-flat_map (λ w. w.place < stored_len e) (outside_of e) (entries e)
    (each_entry e (λ x. Each (λ w. w.place < stored_len e) (outside_of e x)) (λ i j below kept less. at i j kept (reloc_fault e i j) refl))
  where
    at : (i j : ℕ) → is_kept e i ≡ true → (o : Option RelocFault) → reloc_fault e i j ≡ o
        → Each (λ w. w.place < stored_len e) (if is_none o then map (λ w. at_entry (entry_at i j) w.place) (filter (points_outside (size_of (layout e))) (word_of (layout e) (effect e i j))) else [])
    at i j kept None none =
        let l = layout e in
        let ws = word_of l (effect e i j) in
        let all : Each (λ p. p + 4 ≤ stored_len e) (map (λ w. w.place) ws) = rw (effect_places e i j) (entry_within e i j numbers kept none) in
        each-map (λ w. w.place < stored_len e) (λ w. at_entry (entry_at i j) w.place) (filter (points_outside (size_of l)) ws)
        (each-weaker (λ w. w.place + 4 ≤ stored_len e) (λ w. w.place < stored_len e) (λ w fits. omega arith) _
        (each_kept (λ w. w.place + 4 ≤ stored_len e) (points_outside (size_of l)) ws (each_of_map (λ p. p + 4 ≤ stored_len e) (λ w. w.place) ws all)))
    at i j kept (Some f) some = tt

from_zero : (n : ℕ) (ws : List EntryWord) → Each (λ w. w.place < n) ws → Each (λ w. w.place < 0 + n) ws
from_zero n ws all = each-weaker (λ w. w.place < n) (λ w. w.place < 0 + n) (λ w less. omega arith) ws all

any_place : (ws : List EntryWord) → Each (λ w. 0 ≤ w.place) ws
any_place [] = tt
any_place (w ∷ ws) = ((let e : 0 ≤ w.place = omega arith in e), any_place ws)

targets_first : (e : List ℕ) → has_numbers e ≡ true → relocs_fault e ≡ None
    → first_refusal (map (target_at (layout e)) (by_place (stored_len e) (outside_words e))) ≡ target_fault e
unfolding by_place target_fault target_outside
targets_first e numbers none =
    first_by_place (target_at (layout e)) (λ n. refusals.TargetOutside (address_of (layout e) n)) (λ w. refl) (stored_len e) 0 (outside_words e)
    (any_place (outside_words e)) (from_zero (stored_len e) (outside_words e) (outside_within e numbers))
    ∙ ap (λ ns. option_map (λ n. refusals.TargetOutside (address_of (layout e) n)) (lowest ns)) (outside_numbers e none)

-- ---- words that meet others

get_each : {X : Type 0} (P : X → Type 0) (xs : List X) (k : ℕ) (d : X) → P d → Each P xs → P (slice_index_or xs k d)
get_each P [] k d here all = here
get_each P (x ∷ xs) zero d here all = all.0
get_each P (x ∷ xs) (suc k) d here all = get_each P xs k d here all.1

met_within : (e : List ℕ) (k : ℕ) → has_numbers e ≡ true → Each (λ w. w.place < stored_len e) (met_of e k)
unfolding met_of
met_within e k numbers =
    let l = layout e in
    let es = map (sound_spans e) (entries e) in
    let P : List Span → Type 0 = λ ss. Each (λ p. p + 4 ≤ stored_len e) (recorded_places l ss) in
    let own = get_each P es k [] tt (each-map P (sound_spans e) (entries e) (sound_within e numbers)) in
    below_text e (slice_index_or (entries e) k (entry_at 0 0)) (met_words l es k)
    (each_kept (λ p. p + 4 ≤ stored_len e) _ (recorded_places l (slice_index_or es k [])) own)

pub overlapping_within : (e : List ℕ) → has_numbers e ≡ true → Each (λ w. w.place < stored_len e) (overlapping_words e)
unfolding overlapping_words
overlapping_within e numbers = each-flat_map (λ w. w.place < stored_len e) (met_of e) (range_with_len 0 (length (entries e))) (all (range_with_len 0 (length (entries e))))
  where
    all : (ks : List ℕ) → Each (λ k. Each (λ w. w.place < stored_len e) (met_of e k)) ks
    all [] = tt
    all (k ∷ ks) = (met_within e k numbers, all ks)

overlaps_first : (e : List ℕ) → has_numbers e ≡ true → relocs_fault e ≡ None
    → first_refusal (map (overlap_at (layout e)) (by_place (stored_len e) (overlapping_words e))) ≡ overlap_fault e
unfolding by_place overlap_fault word_overlap
overlaps_first e numbers none =
    first_by_place (overlap_at (layout e)) (λ n. refusals.WordOverlap (address_of (layout e) n)) (λ w. refl) (stored_len e) 0 (overlapping_words e)
    (any_place (overlapping_words e)) (from_zero (stored_len e) (overlapping_words e) (overlapping_within e numbers))
    ∙ ap (λ ns. option_map (λ n. refusals.WordOverlap (address_of (layout e) n)) (lowest ns)) (overlap_numbers e none)

-- ---- all

words_first : (e : List ℕ) → has_numbers e ≡ true → first_refusal (words_faults e) ≡ words_fault e
unfolding words_faults
words_first e numbers =
    first_append (flat_map (reloc_faults e) (entries e) ++ targets) overlaps
    ∙ ap (λ o. option_or o (first_refusal overlaps)) (first_append (flat_map (reloc_faults e) (entries e)) targets ∙ ap (λ o. option_or o (first_refusal targets)) (relocs_first e))
    ∙ by (relocs_fault e) refl
  where
    targets : List Fault
    targets = map (target_at (layout e)) (by_place (stored_len e) (outside_words e))

    overlaps : List Fault
    overlaps = map (overlap_at (layout e)) (by_place (stored_len e) (overlapping_words e))

    by : (o : Option Refusal) → relocs_fault e ≡ o → option_or (option_or o (first_refusal targets)) (first_refusal overlaps) ≡ option_or o (option_or (target_fault e) (overlap_fault e))
    by (Some r) is = refl
    by None none = rw (targets_first e numbers none, overlaps_first e numbers none) refl

read_first : (e : List ℕ) (o : Option LayoutFault) → layout_fault e ≡ o → first_refusal (read_faults e) ≡ fault_from_layout e o
unfolding read_faults
read_first e (Some f) is =
    first_append (layout_faults e) (if has_numbers e then words_faults e else []) ∙ some_first _ _ _ (layout_first e ∙ ap (option_map refusals.Layout) is)
read_first e None none =
    first_append (layout_faults e) (if has_numbers e then words_faults e else []) ∙ none_first _ _ (layout_first e ∙ ap (option_map refusals.Layout) none)
    ∙ rw (clear_numbers e none) (words_first e (clear_numbers e none))

whole_fault : (e : List ℕ) → option_or (header_fault e) (section_fault e) ≡ elf_fault e
unfolding elf_fault
whole_fault e = refl

pub first_fault : (e : List ℕ) → first_refusal (faults e) ≡ fault e
unfolding faults fault
first_fault e = by (elf_fault e) refl
  where
    by : (o : Option ElfFault) → elf_fault e ≡ o → first_refusal (if is_none o then read_faults e else elf_faults e (header_fault e)) ≡ fault_from_elf e o
    by None none = read_first e (layout_fault e) refl
    by (Some f) is = elf_first e (header_fault e) ∙ ap (option_map refusals.Elf) (whole_fault e ∙ is)
