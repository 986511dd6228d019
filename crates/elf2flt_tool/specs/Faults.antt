-- Every reason why an ELF file isn't converted, in one order; the first is `fault` of Fault.antt. The order is this project's own.
use Rattle.std.specs.Prelude.{ℕ, ◌+◌, ◌==◌, Bool, List, [], ◌∷◌, ◌++◌, map, flat_map, filter, length, Option, Some, None, if◌then◌else◌}
use Rattle.std.specs.List.{range_with_len, slice_index_or}
use Rattle.std.specs.Option.{option_map, option_to_list, is_none}
use Rattle.elf32_reader.specs.declared.fault.ElfFault.{ElfFault}
use Rattle.elf32_reader.specs.declared.fault.ElfFault.TheVariants.{SectionRange, SymbolRange}
use Rattle.elf32_reader.specs.Header.{count_of}
use Rattle.elf32_reader.specs.Sections.{section}
use Rattle.elf32_reader.specs.Relas.{is_kept, rela_count}
use Rattle.elf32_reader.specs.Faults.{header_fault, section_fault, elf_fault}
use Rattle.elf32_reader.specs.Heads as heads
use Rattle.flat_layout.specs.declared.fault.LayoutFault.{LayoutFault}
use Rattle.flat_layout.specs.declared.fault.LayoutFault.TheVariants.{NoSections, TooLarge, Overlap, Dynamic, Tls, EntryOutside}
use Rattle.flat_layout.specs.declared.layout.Layout.{Layout}
use Rattle.flat_layout.specs.Layout.{layout, off, size_of}
use Rattle.flat_layout.specs.Fault.{has_sections, meets, is_entry_outside}
use Rattle.flat_layout.specs.Rows.{has_numbers, row_holds}
use Rattle.psabi_relocs.specs.declared.effect.Effect.{Effect}
use Rattle.psabi_relocs.specs.declared.effect.Effect.TheVariants as effects
use Rattle.psabi_relocs.specs.declared.spans.Span.{Span}
use Rattle.psabi_relocs.specs.Search.{first_below}
use Rattle.psabi_relocs.specs.Fault.{reloc_fault}
use Rattle.psabi_relocs.specs.Effect.{effect, spans}
use Rattle.elf2flt_tool.specs.declared.refusal.Refusal.{Refusal}
use Rattle.elf2flt_tool.specs.declared.refusal.Refusal.TheVariants as refusals
use Rattle.elf2flt_tool.specs.declared.fault.Fault.{Fault}
use Rattle.elf2flt_tool.specs.declared.fault.Fault.TheVariants as every
use Rattle.elf2flt_tool.specs.declared.word.Word.{Word}
use Rattle.elf2flt_tool.specs.declared.entry_word.EntryWord.{EntryWord}
use Rattle.elf2flt_tool.specs.Word.{points_outside, met_words}
use Rattle.elf2flt_tool.specs.Fault.{address_of}

-- ---- of the ELF file

abbrev pub elf_in : ElfFault → ℕ → Fault
elf_in f i = every.Elf f i 0

-- the number of a row that speaks of sections
abbrev pub row_of : ElfFault → ℕ
row_of SectionRange = 10
row_of SymbolRange = 11
row_of _ = 12

-- the sections that pass, ascending
abbrev pub sections_with : (ℕ → Bool) → List ℕ → List ℕ
sections_with p e = filter p (range_with_len 0 (count_of e))

-- a row on sections: one for each that it holds of
abbrev pub section_faults : List ℕ → Option ElfFault → List Fault
section_faults e None = []
section_faults e (Some f) = map (elf_in f) (sections_with (heads.row_holds (row_of f) e) e)

-- a row of the header: one
abbrev pub elf_faults : List ℕ → Option ElfFault → List Fault
elf_faults e None = section_faults e (section_fault e)
elf_faults e (Some f) = elf_in f 0 ∷ []

-- ---- of its layout, by row and then by section

abbrev pub layout_in : LayoutFault → ℕ → Fault
layout_in f i = every.Layout f i 0

abbrev pub found_or_0 : Option ℕ → ℕ
found_or_0 None = 0
found_or_0 (Some i) = i

-- section i, with the first one that it has a byte in common with
abbrev pub overlap_in : List ℕ → ℕ → Fault
overlap_in e i = every.Layout Overlap i (found_or_0 (first_below (λ j. meets (section e j) (section e i)) i))

-- each row by its own condition
unfoldable pub rows_faults : List ℕ → List Fault
rows_faults e =
    map (layout_in TooLarge) (sections_with (row_holds 2 e) e)
    ++ (map (overlap_in e) (sections_with (row_holds 3 e) e)
    ++ (map (layout_in Dynamic) (sections_with (row_holds 4 e) e)
    ++ (map (layout_in Tls) (sections_with (row_holds 5 e) e)
    ++ (if is_entry_outside e then layout_in EntryOutside 0 ∷ [] else []))))

unfoldable pub layout_faults : List ℕ → List Fault
layout_faults e = if has_sections e then rows_faults e else layout_in NoSections 0 ∷ []

-- ---- of its kept relocations

-- entry `index` of the kept section `section`
pub record Entry : Type 0 where
  pub section : ℕ
  pub index : ℕ

abbrev pub entry_at : ℕ → ℕ → Entry
entry_at i j = record { section = i; index = j }

unfoldable pub entries_in : List ℕ → ℕ → List Entry
entries_in e i = if is_kept e i then map (entry_at i) (range_with_len 0 (rela_count e i)) else []

-- by section and index
unfoldable pub entries : List ℕ → List Entry
entries e = flat_map (entries_in e) (range_with_len 0 (count_of e))

-- the fault of an entry by itself; one without it is sound
unfoldable pub reloc_faults : List ℕ → Entry → List Fault
reloc_faults e x = option_to_list (option_map (every.Reloc x.section x.index) (reloc_fault e x.section x.index))

abbrev pub is_sound : List ℕ → Entry → Bool
is_sound e x = is_none (reloc_fault e x.section x.index)

-- the bytes of a sound entry
unfoldable pub sound_spans : List ℕ → Entry → List Span
sound_spans e x = if is_sound e x then spans e x.section x.index else []

-- the word that a loader has to change, by numbers of the image
abbrev pub word_of : Layout → Effect → List Word
word_of l effects.Still = []
word_of l (effects.Word p t) = record { place = off l p; target = off l t } ∷ []
word_of l (effects.Slot p t) = record { place = off l p; target = off l t } ∷ []

abbrev pub at_entry : Entry → ℕ → EntryWord
at_entry x p = record { place = p; section = x.section; index = x.index }

-- this word of the entry x, if it points to no byte of the image, nor to its end
abbrev pub outside_in : Layout → Entry → Effect → List EntryWord
outside_in l x f = map (λ w. at_entry x w.place) (filter (points_outside (size_of l)) (word_of l f))

-- of a sound entry
unfoldable pub outside_of : List ℕ → Entry → List EntryWord
outside_of e x = if is_sound e x then outside_in (layout e) x (effect e x.section x.index) else []

-- the word of entry number k that meets the bytes of another sound entry
unfoldable pub met_of : List ℕ → ℕ → List EntryWord
met_of e k = map (at_entry (slice_index_or (entries e) k (entry_at 0 0))) (met_words (layout e) (map (sound_spans e) (entries e)) k)

-- words by number, below n; those of one number stay in their order
unfoldable pub by_place : ℕ → List EntryWord → List EntryWord
by_place n ws = flat_map (λ p. filter (λ w. w.place == p) ws) (range_with_len 0 n)

-- how many bytes text and data have
abbrev pub stored_len : List ℕ → ℕ
stored_len e = (layout e).text + (layout e).data_len

abbrev pub target_at : Layout → EntryWord → Fault
target_at l w = every.TargetOutside (address_of l w.place) w.section w.index

abbrev pub overlap_at : Layout → EntryWord → Fault
overlap_at l w = every.WordOverlap (address_of l w.place) w.section w.index

unfoldable pub outside_words : List ℕ → List EntryWord
outside_words e = flat_map (outside_of e) (entries e)

unfoldable pub overlapping_words : List ℕ → List EntryWord
overlapping_words e = flat_map (met_of e) (range_with_len 0 (length (entries e)))

-- those of entries by themselves; then of where words point, then of what they meet, by number
unfoldable pub words_faults : List ℕ → List Fault
words_faults e =
    flat_map (reloc_faults e) (entries e)
    ++ map (target_at (layout e)) (by_place (stored_len e) (outside_words e))
    ++ map (overlap_at (layout e)) (by_place (stored_len e) (overlapping_words e))

-- ---- of all

-- of a file that can be read; its relocations are looked at where its bytes have numbers
unfoldable pub read_faults : List ℕ → List Fault
read_faults e = layout_faults e ++ (if has_numbers e then words_faults e else [])

unfoldable pub faults : List ℕ → List Fault
faults e = if is_none (elf_fault e) then read_faults e else elf_faults e (header_fault e)

-- the refusal that a fault is
abbrev pub refusal_of : Fault → Refusal
refusal_of (every.Elf f i j) = refusals.Elf f
refusal_of (every.Layout f i j) = refusals.Layout f
refusal_of (every.Reloc i j f) = refusals.Reloc i j f
refusal_of (every.TargetOutside p i j) = refusals.TargetOutside p
refusal_of (every.WordOverlap p i j) = refusals.WordOverlap p

abbrev pub first_refusal : List Fault → Option Refusal
first_refusal [] = None
first_refusal (f ∷ fs) = Some (refusal_of f)
