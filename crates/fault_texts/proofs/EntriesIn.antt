-- What the faults of entries speak of lies in the file.
use Rattle.std.proofs.Common.{◌≡◌, ◌∙◌, ℕ, ◌+◌, ◌<◌, ◌==◌, Bool, true, false, List, [], ◌∷◌, ◌++◌, map, flat_map, filter, length, slice_index_or, Option, Some, None, if◌then◌else◌, sym, subst, arith}
use Rattle.std.specs.List.{range_with_len, AllByRecursion as Each}
use Rattle.std.specs.Option.{option_map, option_to_list}
use Rattle.elf32_reader.specs.Faults.{elf_fault}
use Rattle.elf32_reader.proofs.Facts.{count_above}
use Rattle.elf32_reader.specs.Header.{count_of}
use Rattle.flat_layout.specs.Layout.{layout}
use Rattle.flat_layout.specs.Rows.{has_numbers}
use Rattle.psabi_relocs.specs.declared.fault.RelocFault.{RelocFault}
use Rattle.psabi_relocs.specs.Effect.{effect}
use Rattle.psabi_relocs.specs.Fault.{reloc_fault}
use Rattle.elf2flt_tool.specs.declared.fault.Fault.{Fault}
use Rattle.elf2flt_tool.specs.declared.fault.Fault.TheVariants as every
use Rattle.elf2flt_tool.specs.declared.entry_word.EntryWord.{EntryWord}
use Rattle.elf2flt_tool.specs.declared.word.Word.{Word}
use Rattle.elf2flt_tool.specs.Word.{met_words}
use Rattle.elf2flt_tool.specs.Faults.{layout_faults, Entry, entry_at, entries, reloc_faults, is_sound, sound_spans, at_entry, outside_in, outside_of, met_of, by_place, stored_len, target_at, overlap_at, outside_words, overlapping_words, words_faults, read_faults, faults}
use Rattle.elf2flt_tool.proofs.Members.{each-append, each-flat_map, each-range, each-weaker}
use Rattle.elf2flt_tool.proofs.AllFaults.{each_entry}
use Rattle.elf2flt_tool.proofs.NotedSteps.{faults_read}
use Rattle.fault_texts.specs.InFile.{IsEntry, IsOfRead, AreOfRead}
use Rattle.fault_texts.proofs.Elements.{each_there, each_kept, get_each, each_always}
use Rattle.fault_texts.proofs.FoundIn.{layout_of_read}

abbrev IsOne : List ℕ → Entry → Type 0
IsOne e x = IsEntry e x.section x.index

abbrev IsAt : List ℕ → EntryWord → Type 0
IsAt e w = IsEntry e w.section w.index

each_entry_is : (e : List ℕ) → Each (IsOne e) (entries e)
each_entry_is e = each_entry e (IsOne e) (λ i j below kept less. (kept, less))

reloc_of_read : (e : List ℕ) (x : Entry) → IsOne e x → (o : Option RelocFault) → Each (IsOfRead e) (option_to_list (option_map (every.Reloc x.section x.index) o))
reloc_of_read e x there None = tt
reloc_of_read e x there (Some f) = (there, tt)

reloc_one : (e : List ℕ) (x : Entry) → IsOne e x → Each (IsOfRead e) (reloc_faults e x)
unfolding reloc_faults
reloc_one e x there = reloc_of_read e x there (reloc_fault e x.section x.index)

relocs_of_read : (e : List ℕ) → Each (IsOfRead e) (flat_map (reloc_faults e) (entries e))
relocs_of_read e =
    each-flat_map (IsOfRead e) (reloc_faults e) (entries e)
    (each-weaker (IsOne e) (λ x. Each (IsOfRead e) (reloc_faults e x)) (reloc_one e) (entries e) (each_entry_is e))

words_at : (e : List ℕ) (x : Entry) → IsOne e x → (ws : List Word) → Each (IsAt e) (map (λ w. at_entry x w.place) ws)
words_at e x there [] = tt
words_at e x there (w ∷ ws) = (there, words_at e x there ws)

places_at : (e : List ℕ) (x : Entry) → IsOne e x → (ps : List ℕ) → Each (IsAt e) (map (at_entry x) ps)
places_at e x there [] = tt
places_at e x there (p ∷ ps) = (there, places_at e x there ps)

if_each : {X : Type 0} (P : X → Type 0) (b : Bool) (xs : List X) → Each P xs → Each P (if b then xs else [])
if_each P true xs all = all
if_each P false xs all = tt

outside_one : (e : List ℕ) (x : Entry) → IsOne e x → Each (IsAt e) (outside_of e x)
unfolding outside_of
outside_one e x there = if_each (IsAt e) (is_sound e x) (outside_in (layout e) x (effect e x.section x.index)) (words_at e x there _)

outside_at : (e : List ℕ) → Each (IsAt e) (outside_words e)
unfolding outside_words
outside_at e =
    each-flat_map (IsAt e) (outside_of e) (entries e)
    (each-weaker (IsOne e) (λ x. Each (IsAt e) (outside_of e x)) (outside_one e) (entries e) (each_entry_is e))

met_one : (e : List ℕ) (k : ℕ) → k < length (entries e) → Each (IsAt e) (met_of e k)
unfolding met_of
met_one e k below =
    places_at e (slice_index_or (entries e) k (entry_at 0 0)) (get_each (IsOne e) (entries e) k (entry_at 0 0) below (each_entry_is e))
    (met_words (layout e) (map (sound_spans e) (entries e)) k)

overlapping_at : (e : List ℕ) → Each (IsAt e) (overlapping_words e)
unfolding overlapping_words
overlapping_at e =
    each-flat_map (IsAt e) (met_of e) (range_with_len 0 (length (entries e)))
    (each-range (λ k. Each (IsAt e) (met_of e k)) 0 (length (entries e)) (λ k low high. met_one e k (omega arith)))

placed_at : (e : List ℕ) (n : ℕ) (ws : List EntryWord) → Each (IsAt e) ws → Each (IsAt e) (by_place n ws)
unfolding by_place
placed_at e n ws all =
    each-flat_map (IsAt e) (λ p. filter (λ w. w.place == p) ws) (range_with_len 0 n)
    (each_always (λ p. Each (IsAt e) (filter (λ w. w.place == p) ws)) (λ p. each_kept (IsAt e) (λ w. w.place == p) ws all) (range_with_len 0 n))

targets_of_read : (e : List ℕ) (ws : List EntryWord) → Each (IsAt e) ws → Each (IsOfRead e) (map (target_at (layout e)) ws)
targets_of_read e [] all = tt
targets_of_read e (w ∷ ws) all = (all.0, targets_of_read e ws all.1)

overlaps_of_read : (e : List ℕ) (ws : List EntryWord) → Each (IsAt e) ws → Each (IsOfRead e) (map (overlap_at (layout e)) ws)
overlaps_of_read e [] all = tt
overlaps_of_read e (w ∷ ws) all = (all.0, overlaps_of_read e ws all.1)

three : (P : Fault → Type 0) (a b c : List Fault) → Each P a → Each P b → Each P c → Each P ((a ++ b) ++ c)
three P a b c p q r = each-append P (a ++ b) c (each-append P a b p q) r

words_of_read : (e : List ℕ) → Each (IsOfRead e) (words_faults e)
unfolding words_faults
words_of_read e =
    let n = stored_len e in
    three (IsOfRead e) (flat_map (reloc_faults e) (entries e)) (map (target_at (layout e)) (by_place n (outside_words e))) (map (overlap_at (layout e)) (by_place n (overlapping_words e)))
    (relocs_of_read e)
    (targets_of_read e (by_place n (outside_words e)) (placed_at e n (outside_words e) (outside_at e)))
    (overlaps_of_read e (by_place n (overlapping_words e)) (placed_at e n (overlapping_words e) (overlapping_at e)))

read_of_read : (e : List ℕ) → 0 < count_of e → Each (IsOfRead e) (read_faults e)
unfolding read_faults
read_of_read e some =
    each-append (IsOfRead e) (layout_faults e) (if has_numbers e then words_faults e else []) (layout_of_read e some)
    (if_each (IsOfRead e) (has_numbers e) (words_faults e) (words_of_read e))

-- all faults of a file that was read
pub read_in : (e : List ℕ) (fs : List Fault) → elf_fault e ≡ None → fs ≡ faults e → AreOfRead e fs
read_in e fs none are =
    each_there (IsOfRead e) fs (subst (Each (IsOfRead e)) (faults_read e none ∙ sym are) (read_of_read e (count_above e none)))
