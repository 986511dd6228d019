-- What the walks for all faults have found at each step.
use Rattle.std.proofs.Common.{◌≡◌, ℕ, zero, suc, ◌+◌, ◌-◌, ◌<◌, Bool, true, false, List, [], ◌∷◌, ◌++◌, map, flat_map, filter, length, slice_index_or, Option, Some, None, refl, sym, ap, subst, ◌∙◌, arith, zero-add, append_assoc, append-nil, if◌then◌else◌}
use Rattle.std.specs.List.{range_with_len, AllByRecursion as Each}
use Rattle.std.specs.Option.{is_none, option_or}
use Rattle.std.proofs.lemmas.List.{map-append, length-map}
use Rattle.std.proofs.lemmas.List.Elements.{filter-append}
use Rattle.std.proofs.lemmas.List.FromFn.{map-range_with_len_more}
use Rattle.elf32_reader.specs.Header.{count_of}
use Rattle.elf32_reader.specs.Relas.{is_kept, rela_count}
use Rattle.flat_layout.specs.Layout.{layout}
use Rattle.psabi_relocs.specs.declared.fault.RelocFault.{RelocFault}
use Rattle.psabi_relocs.specs.declared.spans.Span.{Span}
use Rattle.psabi_relocs.specs.Search.{first_below}
use Rattle.psabi_relocs.specs.Fault.{reloc_fault}
use Rattle.psabi_relocs.specs.Effect.{effect, spans}
use Rattle.psabi_relocs.proofs.IndexSearches.{first_below_more}
use Rattle.elf2flt_tool.specs.declared.cover.Cover.{Cover}
use Rattle.elf2flt_tool.specs.declared.entry_word.EntryWord.{EntryWord}
use Rattle.elf2flt_tool.specs.declared.fault.Fault.{Fault}
use Rattle.elf2flt_tool.specs.declared.fault.Fault.TheVariants as every
use Rattle.elf2flt_tool.specs.declared.noted.Noted.{Noted}
use Rattle.elf2flt_tool.specs.Cover.{IsCover, is_met, recorded_of}
use Rattle.elf2flt_tool.specs.Word.{met_words}
use Rattle.elf2flt_tool.specs.Walk.{all_of}
use Rattle.elf32_reader.specs.declared.fault.ElfFault.{ElfFault}
use Rattle.elf32_reader.specs.Faults.{header_fault, section_fault, elf_fault}
use Rattle.flat_layout.specs.Rows.{has_numbers, row_holds}
use Rattle.flat_layout.specs.Fault.{has_sections, is_entry_outside}
use Rattle.flat_layout.specs.declared.fault.LayoutFault.TheVariants.{NoSections, TooLarge, Dynamic, Tls, EntryOutside}
use Rattle.elf2flt_tool.specs.Faults.{elf_in, layout_in, overlap_in, sections_with, rows_faults, section_faults, elf_faults, by_place, target_at, overlap_at, outside_words, words_faults, read_faults, faults, entry_at, entries_in, entries, reloc_faults, sound_spans, at_entry, outside_in, outside_of, met_of, overlapping_words, layout_faults, stored_len}
use Rattle.elf2flt_tool.specs.Noted.{if_passes, entries_before, IsNoted, met_by}
use Rattle.elf2flt_tool.proofs.Members.{each-map, map_map}
use Rattle.elf2flt_tool.proofs.Meeting.{IsEntry, entry_of, met_words_at, flat_map_indexed}
use Rattle.elf2flt_tool.proofs.Shapes.{spans_entry}
use Rattle.elf2flt_tool.proofs.Walked.{range-more, flat_map-more, flat_map-push}
use Rattle.elf2flt_tool.proofs.AllFaults.{each_entry, flat_mapped}

-- ---- a row, section by section

kept_more : (p : ℕ → Bool) (n : ℕ) → filter p (range_with_len 0 (n + 1)) ≡ filter p (range_with_len 0 n) ++ if_passes p n
kept_more p n = ap (filter p) (range-more n) ∙ filter-append p (range_with_len 0 n) (n ∷ []) ∙ ap (λ ks. filter p (range_with_len 0 n) ++ ks) (one (p n) refl)
  where
    one : (b : Bool) → p n ≡ b → filter p (n ∷ []) ≡ (if b then n ∷ [] else [])
    one true is = rw is refl
    one false is = rw is refl

-- one section more
pub row_more : (f : ℕ → Fault) (p : ℕ → Bool) (n : ℕ) (old now new : List Fault) → now ≡ old ++ map f (filter p (range_with_len 0 n)) → new ≡ now ++ map f (if_passes p n)
    → new ≡ old ++ map f (filter p (range_with_len 0 (n + 1)))
row_more f p n old now new before step =
    step ∙ ap (λ fs. fs ++ map f (if_passes p n)) before ∙ append_assoc old (map f (filter p (range_with_len 0 n))) (map f (if_passes p n))
    ∙ ap (λ fs. old ++ fs) (sym (ap (map f) (kept_more p n) ∙ map-append f (filter p (range_with_len 0 n)) (if_passes p n)))

-- a search that has found nothing before it finds the next
first_stays : (p : ℕ → Bool) (n k i : ℕ) → first_below p n ≡ Some i → first_below p (n + k) ≡ Some i
first_stays p n zero i is = ap (first_below p) (let e : n + 0 ≡ n = omega arith in e) ∙ is
first_stays p n (suc k) i is =
    ap (first_below p) (let e : n + suc k ≡ n + k + 1 = omega arith in e) ∙ first_below_more p (n + k)
    ∙ ap (λ o. option_or o (if p (n + k) then Some (n + k) else None)) (first_stays p n k i is)

pub first_found : (p : ℕ → Bool) (n i : ℕ) → i < n → first_below p i ≡ None → p i ≡ true → first_below p n ≡ Some i
first_found p n i below none here =
    let next : first_below p (i + 1) ≡ Some i = first_below_more p i ∙ rw (none, here) refl in
    ap (first_below p) (let e : n ≡ i + 1 + (n - (i + 1)) = omega arith in e) ∙ first_stays p (i + 1) _ i next

pub first_later : (p : ℕ → Bool) (i : ℕ) → first_below p i ≡ None → p i ≡ false → first_below p (i + 1) ≡ None
first_later p i none here = first_below_more p i ∙ rw (none, here) refl

-- ---- one entry more

pub entries-more : (e : List ℕ) (i j : ℕ) → entries_before e i (j + 1) ≡ entries_before e i j ++ entry_at i j ∷ []
entries-more e i j =
    ap (λ xs. flat_map (entries_in e) (range_with_len 0 i) ++ xs) (map-range_with_len_more (entry_at i) 0 j j (zero-add j))
    ∙ sym (append_assoc (flat_map (entries_in e) (range_with_len 0 i)) (map (entry_at i) (range_with_len 0 j)) (entry_at i j ∷ []))

in_kept : (e : List ℕ) (i : ℕ) → is_kept e i ≡ true → entries_in e i ≡ map (entry_at i) (range_with_len 0 (rela_count e i))
unfolding entries_in
in_kept e i kept = rw kept refl

in_other : (e : List ℕ) (i : ℕ) → is_kept e i ≡ false → entries_in e i ≡ []
unfolding entries_in
in_other e i other = rw other refl

pub entries-kept : (e : List ℕ) (i : ℕ) → is_kept e i ≡ true → entries_before e i (rela_count e i) ≡ entries_before e (i + 1) 0
entries-kept e i kept = ap (λ xs. flat_map (entries_in e) (range_with_len 0 i) ++ xs) (sym (in_kept e i kept)) ∙ sym (flat_map-more (entries_in e) i) ∙ sym (append-nil _)

pub entries-other : (e : List ℕ) (i : ℕ) → is_kept e i ≡ false → entries_before e i 0 ≡ entries_before e (i + 1) 0
entries-other e i other = ap (λ xs. flat_map (entries_in e) (range_with_len 0 i) ++ xs) (sym (in_other e i other)) ∙ sym (flat_map-more (entries_in e) i) ∙ sym (append-nil _)

pub entries-all : (e : List ℕ) → entries_before e (count_of e) 0 ≡ entries e
unfolding entries
entries-all e = append-nil (flat_map (entries_in e) (range_with_len 0 (count_of e)))

-- nothing is noted of no entry
pub noted_none : (e : List ℕ) (n : Noted) → n.faults.items ≡ layout_faults e → n.outside.items ≡ [] → IsCover (layout e) (stored_len e) [] n.cover → IsNoted e (entries_before e 0 0) n
noted_none e n faults outside cover = record { faults = faults ∙ sym (append-nil _); outside = outside; cover = cover }

-- ---- what an entry adds

sound_faults : (e : List ℕ) (i j : ℕ) → reloc_fault e i j ≡ None → reloc_faults e (entry_at i j) ≡ []
unfolding reloc_faults
sound_faults e i j none = rw none refl

sound_outside : (e : List ℕ) (i j : ℕ) → reloc_fault e i j ≡ None → outside_of e (entry_at i j) ≡ outside_in (layout e) (entry_at i j) (effect e i j)
unfolding outside_of
sound_outside e i j none = rw none refl

pub sound_bytes : (e : List ℕ) (i j : ℕ) → reloc_fault e i j ≡ None → sound_spans e (entry_at i j) ≡ spans e i j
unfolding sound_spans
sound_bytes e i j none = rw none refl

refused_faults : (e : List ℕ) (i j : ℕ) (f : RelocFault) → reloc_fault e i j ≡ Some f → reloc_faults e (entry_at i j) ≡ every.Reloc i j f ∷ []
unfolding reloc_faults
refused_faults e i j f some = rw some refl

refused_outside : (e : List ℕ) (i j : ℕ) (f : RelocFault) → reloc_fault e i j ≡ Some f → outside_of e (entry_at i j) ≡ []
unfolding outside_of
refused_outside e i j f some = rw some refl

pub refused_bytes : (e : List ℕ) (i j : ℕ) (f : RelocFault) → reloc_fault e i j ≡ Some f → sound_spans e (entry_at i j) ≡ []
unfolding sound_spans
refused_bytes e i j f some = rw some refl

-- a list that goes on by what an entry adds
flat_grown : {X Y : Type 0} (f : X → List Y) (xs : List X) (x : X) (before : List Y) (ys now new : List Y) → now ≡ before ++ flat_map f xs → new ≡ now ++ ys → f x ≡ ys
    → new ≡ before ++ flat_map f (xs ++ x ∷ [])
flat_grown f xs x before ys now new was step adds =
    step ∙ ap (λ zs. zs ++ ys) was ∙ append_assoc before (flat_map f xs) ys
    ∙ ap (λ zs. before ++ zs) (ap (λ zs. flat_map f xs ++ zs) (sym adds) ∙ sym (flat_map-push f xs x))

pub sound_noted : (e : List ℕ) (i j : ℕ) (before after : Noted) → IsNoted e (entries_before e i j) before → reloc_fault e i j ≡ None
    → after.faults.items ≡ before.faults.items → after.outside.items ≡ before.outside.items ++ outside_in (layout e) (entry_at i j) (effect e i j)
    → ((n : ℕ) (all : List Span) → IsCover (layout e) n all before.cover → IsCover (layout e) n (all ++ spans e i j) after.cover)
    → IsNoted e (entries_before e i (j + 1)) after
sound_noted e i j before after was none faults outside cover =
    let xs = entries_before e i j in
    let x = entry_at i j in
    let covered : flat_map (sound_spans e) xs ++ spans e i j ≡ flat_map (sound_spans e) (xs ++ x ∷ []) = sym (flat_map-push (sound_spans e) xs x ∙ ap (λ ss. flat_map (sound_spans e) xs ++ ss) (sound_bytes e i j none)) in
    rw (entries-more e i j) (record {
      faults = flat_grown (reloc_faults e) xs x (layout_faults e) [] before.faults.items after.faults.items was.faults (faults ∙ sym (append-nil _)) (sound_faults e i j none);
      outside = flat_grown (outside_of e) xs x [] (outside_in (layout e) x (effect e i j)) before.outside.items after.outside.items was.outside outside (sound_outside e i j none);
      cover = subst (λ ss. IsCover (layout e) (stored_len e) ss after.cover) covered (cover (stored_len e) (flat_map (sound_spans e) xs) was.cover);
    })

pub refused_noted : (e : List ℕ) (i j : ℕ) (f : RelocFault) (before after : Noted) → IsNoted e (entries_before e i j) before → reloc_fault e i j ≡ Some f
    → after.faults.items ≡ before.faults.items ++ every.Reloc i j f ∷ [] → after.outside.items ≡ before.outside.items → after.cover ≡ before.cover
    → IsNoted e (entries_before e i (j + 1)) after
refused_noted e i j f before after was some faults outside cover =
    let xs = entries_before e i j in
    let x = entry_at i j in
    let covered : flat_map (sound_spans e) xs ≡ flat_map (sound_spans e) (xs ++ x ∷ []) = sym (flat_map-push (sound_spans e) xs x ∙ ap (λ ss. flat_map (sound_spans e) xs ++ ss) (refused_bytes e i j f some) ∙ append-nil _) in
    rw (entries-more e i j) (record {
      faults = flat_grown (reloc_faults e) xs x (layout_faults e) (every.Reloc i j f ∷ []) before.faults.items after.faults.items was.faults faults (refused_faults e i j f some);
      outside = flat_grown (outside_of e) xs x [] [] before.outside.items after.outside.items was.outside (outside ∙ sym (append-nil _)) (refused_outside e i j f some);
      cover = rw cover (subst (λ ss. IsCover (layout e) (stored_len e) ss before.cover) covered was.cover);
    })

-- ---- words that meet others

pub met_more : (e : List ℕ) (c : Cover) (i j : ℕ) (now new : List EntryWord) → now ≡ flat_map (met_by e c) (entries_before e i j) → new ≡ now ++ met_by e c (entry_at i j)
    → new ≡ flat_map (met_by e c) (entries_before e i (j + 1))
met_more e c i j now new was step =
    flat_grown (met_by e c) (entries_before e i j) (entry_at i j) [] (met_by e c (entry_at i j)) now new was step refl
    ∙ ap (flat_map (met_by e c)) (sym (entries-more e i j))

get_map : {X Y : Type 0} (f : X → Y) (xs : List X) (k : ℕ) (d : X) (b : Y) → k < length xs → slice_index_or (map f xs) k b ≡ f (slice_index_or xs k d)
get_map f [] k d b below = absurd (omega arith)
get_map f (x ∷ xs) zero d b below = refl
get_map f (x ∷ xs) (suc k) d b below = get_map f xs k d b (omega arith)

sound_entries : (e : List ℕ) → Each IsEntry (map (sound_spans e) (entries e))
unfolding sound_spans
sound_entries e = each-map IsEntry (sound_spans e) (entries e) (each_entry e (λ x. IsEntry (sound_spans e x)) (λ i j below kept less. at i j (is_none (reloc_fault e i j))))
  where
    at : (i j : ℕ) (b : Bool) → IsEntry (if b then spans e i j else [])
    at i j true = spans_entry e i j
    at i j false = tt

-- as what is covered tells them, the words are those of the definition
pub met_all : (e : List ℕ) (c : Cover) → IsCover (layout e) (stored_len e) (flat_map (sound_spans e) (entries e)) c
    → flat_map (met_by e c) (entries e) ≡ overlapping_words e
unfolding overlapping_words met_of
met_all e c covered =
    let xs = entries e in
    let es = map (sound_spans e) xs in
    let d = entry_at 0 0 in
    let whole : IsCover (layout e) (stored_len e) (all_of es) c = subst (λ ss. IsCover (layout e) (stored_len e) ss c) (sym (flat_mapped (λ ss. ss) (sound_spans e) xs)) covered in
    sym (flat_map_indexed (met_of e) (met_by e c) xs d 0 (λ k below. at k below (met_words_at (layout e) (stored_len e) es c k (rw (length-map xs (sound_spans e)) below) (sound_entries e) whole)))
  where
    at : (k : ℕ) → k < length (entries e)
        → met_words (layout e) (map (sound_spans e) (entries e)) k ≡ map (λ w. w.place) (filter (is_met c) (recorded_of (layout e) (entry_of (map (sound_spans e) (entries e)) k)))
        → met_of e (0 + k) ≡ met_by e c (slice_index_or (entries e) k (entry_at 0 0))
    at k below is =
        let x = slice_index_or (entries e) k (entry_at 0 0) in
        ap (met_of e) (zero-add k) ∙ ap (map (at_entry x)) is ∙ map_map (at_entry x) (λ w. w.place) _
        ∙ ap (λ ss. map (λ r. at_entry x r.place) (filter (is_met c) (recorded_of (layout e) ss))) (get_map (sound_spans e) (entries e) k (entry_at 0 0) [] below)

-- ---- all together

pub outside_are : (e : List ℕ) → flat_map (outside_of e) (entries e) ≡ outside_words e
unfolding outside_words
outside_are e = refl

pub joined : (e : List ℕ)
    → layout_faults e ++ flat_map (reloc_faults e) (entries e) ++ map (target_at (layout e)) (by_place (stored_len e) (outside_words e)) ++ map (overlap_at (layout e)) (by_place (stored_len e) (overlapping_words e))
    ≡ layout_faults e ++ words_faults e
unfolding words_faults
joined e =
    let l = layout_faults e in
    let r = flat_map (reloc_faults e) (entries e) in
    let t = map (target_at (layout e)) (by_place (stored_len e) (outside_words e)) in
    let o = map (overlap_at (layout e)) (by_place (stored_len e) (overlapping_words e)) in
    ap (λ fs. fs ++ o) (append_assoc l r t) ∙ append_assoc l (r ++ t) o

pub read_with : (e : List ℕ) → true ≡ has_numbers e → layout_faults e ++ words_faults e ≡ read_faults e
unfolding read_faults
read_with e is = rw (sym is) refl

pub read_without : (e : List ℕ) → false ≡ has_numbers e → layout_faults e ≡ read_faults e
unfolding read_faults
read_without e is = rw (sym is) (sym (append-nil (layout_faults e)))

pub header_only : (e : List ℕ) (f : ElfFault) → elf_fault e ≡ Some f → false ≡ is_none (header_fault e) → elf_in f 0 ∷ [] ≡ elf_faults e (header_fault e)
unfolding elf_fault
header_only e f some there = by (header_fault e) some there
  where
    by : (h : Option ElfFault) → option_or h (section_fault e) ≡ Some f → false ≡ is_none h → elf_in f 0 ∷ [] ≡ elf_faults e h
    by None some there = absurd cc
    by (Some g) some there = let same : g ≡ f = cc in ap (λ g. elf_in g 0 ∷ []) (sym same)

pub sections_only : (e : List ℕ) (f : ElfFault) → elf_fault e ≡ Some f → true ≡ is_none (header_fault e) → section_fault e ≡ Some f
unfolding elf_fault
sections_only e f some there = by (header_fault e) some there
  where
    by : (h : Option ElfFault) → option_or h (section_fault e) ≡ Some f → true ≡ is_none h → section_fault e ≡ Some f
    by None some there = some
    by (Some g) some there = absurd cc

pub section_list : (e : List ℕ) (f : ElfFault) → elf_fault e ≡ Some f → true ≡ is_none (header_fault e) → section_faults e (Some f) ≡ elf_faults e (header_fault e)
section_list e f some there = by (header_fault e) there (sections_only e f some there)
  where
    by : (h : Option ElfFault) → true ≡ is_none h → section_fault e ≡ Some f → section_faults e (Some f) ≡ elf_faults e h
    by None there is = ap (section_faults e) (sym is)
    by (Some g) there is = absurd cc

pub faults_read : (e : List ℕ) → elf_fault e ≡ None → read_faults e ≡ faults e
unfolding faults
faults_read e none = rw none refl

pub faults_unread : (e : List ℕ) (f : ElfFault) → elf_fault e ≡ Some f → elf_faults e (header_fault e) ≡ faults e
unfolding faults
faults_unread e f some = rw some refl

pub no_sections : (e : List ℕ) → has_sections e ≡ false → layout_in NoSections 0 ∷ [] ≡ layout_faults e
unfolding layout_faults
no_sections e none = rw none refl

pub rows_listed : (e : List ℕ) → has_sections e ≡ true
    → map (layout_in TooLarge) (sections_with (row_holds 2 e) e) ++ map (overlap_in e) (sections_with (row_holds 3 e) e) ++ map (layout_in Dynamic) (sections_with (row_holds 4 e) e)
    ++ map (layout_in Tls) (sections_with (row_holds 5 e) e) ++ (if is_entry_outside e then layout_in EntryOutside 0 ∷ [] else [])
    ≡ layout_faults e
unfolding layout_faults rows_faults
rows_listed e some =
    let a = map (layout_in TooLarge) (sections_with (row_holds 2 e) e) in
    let b = map (overlap_in e) (sections_with (row_holds 3 e) e) in
    let c = map (layout_in Dynamic) (sections_with (row_holds 4 e) e) in
    let d = map (layout_in Tls) (sections_with (row_holds 5 e) e) in
    let f : List Fault = if is_entry_outside e then layout_in EntryOutside 0 ∷ [] else [] in
    append_assoc (a ++ b ++ c) d f ∙ append_assoc (a ++ b) c (d ++ f) ∙ append_assoc a b (c ++ (d ++ f)) ∙ rw some refl
