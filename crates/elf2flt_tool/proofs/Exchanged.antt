-- What the law needs of high parts, computed: two files whose kept relocations are the same, and whose flat files are not.
use Rattle.std.proofs.Common.{◌≡◌, ◌≢◌, ◌<◌, ℕ, zero, suc, true, false, nat_lt, inl, inr, List, [], ◌∷◌, ◌++◌, take, drop, None, slice_index, refl, sym, ap, subst, ◌∙◌, arith}
use Rattle.std.specs.List.{list_all, range_with_len, AllByRecursion as Each}
use Rattle.std.proofs.lemmas.Bool.{cases_eq, cases_lt, and_parts, ltb-true}
use Rattle.byte_words.specs.Numbers.{IsBytes}
use Rattle.elf32_reader.proofs.Places.{is_kept_below}
use Rattle.flat_layout.specs.Numbering.{is_laid_out}
use Rattle.elf2flt_tool.specs.Same.{HasTwin, HasSections, HaveSameSections, HasTwinReloc, HasRelocs, Agrees}
use Rattle.elf2flt_tool.specs.Laws.{DifferThoughAgreed}
use Rattle.elf2flt_tool.proofs.Members.{member_has, has-range}
use Rattle.elf32_reader.specs.Faults.{has_magic, is_current, has_table, header_fault, passes_end, is_nameless, has_symbol_shape, is_bad_symtab, is_symbolless, has_rela_shape, is_bad_rela, section_fault, elf_fault}
use Rattle.elf32_reader.specs.Header.{entry_of, table_of, count_of}
use Rattle.elf32_reader.specs.Relas.{is_static_relocation, is_kept, rela_count, entry_offset, addend_word, rela}
use Rattle.byte_words.specs.Search.{any_below}
use Rattle.elf32_reader.specs.Sections.{section, is_allocated, is_stored, has_content, content, is_of_kind}
use Rattle.elf32_reader.specs.Symbols.{is_symtab, symbol_count, symbol_offset, symbol, name_of}
use Rattle.rv32im_table.specs.Immediate.{imm_i, imm_u}
use Rattle.flat_layout.specs.Extremes.{least_below, greatest_below}
use Rattle.flat_layout.specs.Fault.{has_sections, some_ends_too_high, is_too_large, meets_below, has_overlap, has_dynamic, has_tls, is_entry_outside, layout_fault}
use Rattle.flat_layout.specs.Layout.{off, stored_end, written_from, text_of, layout}
use Rattle.flat_layout.specs.Numbering.{lowest, highest, raised_start, distance, start_of}
use Rattle.byte_words.specs.Patches.{spans, patched, bytes_below, from_base, big_word, little_word}
use Rattle.bflt_format.specs.Spelling.{spell}
use Rattle.psabi_relocs.specs.Class.{class, value_of}
use Rattle.psabi_relocs.specs.Row.{row_of}
use Rattle.psabi_relocs.specs.Search.{first_below}
use Rattle.psabi_relocs.specs.Reloc.{reloc}
use Rattle.psabi_relocs.specs.Pair.{is_high_at, high_of, names, low_of}
use Rattle.psabi_relocs.specs.Group.{sum_below}
use Rattle.psabi_relocs.specs.Slot.{slot_by, slot_of, holds_slot, slot_section, slot_word, is_slot_wrong}
use Rattle.psabi_relocs.specs.Field.{high_ends, ends_of, absolute, relative, fields, holds_value, is_mismatch}
use Rattle.psabi_relocs.specs.Fault.{is_place_outside, is_lone_low, is_unpaired, first_fault, reloc_fault}
use Rattle.psabi_relocs.specs.Effect as effects
use Rattle.elf2flt_tool.specs.Converted.{number_patch, body_of, converted, flat}
use Rattle.elf2flt_tool.specs.Fault as faults
use Rattle.elf2flt_tool.specs.Fault.{first_some, entry_fault, relocs_fault, target_fault, overlap_fault, fault}
use Rattle.elf2flt_tool.specs.Relocs.{fields_in, fields_of, spans_in, spans_of}
use Rattle.elf2flt_tool.specs.Image.{section_patch, bare, word_patch}
use Rattle.elf2flt_tool.specs.Word.{numbered, words, records, target_outside, word_overlap}
use Rattle.byte_words.specs.Numbers.{byte_at, number_at}

-- Three instructions at 0x10000 (auipc a0, 0; lw a1, 12(a0); lw a2, 16(a0)) and two words at 0x1000c, both 0x10000, with a
-- symbol there. One section has GOT_HI20, PCREL_HI20 with the addend 12, and PCREL_LO12_I of the first load, a second section
-- PCREL_HI20 with the addend 16 and PCREL_LO12_I of the second load: so the slot is at 0x1000c, and 0x10010 is an address that
-- doesn't move
abbrev pub paired : List ℕ
paired =
    127 ∷ 69 ∷ 76 ∷ 70 ∷ 1 ∷ 1 ∷ 1 ∷ 0 ∷ 0 ∷ 0 ∷ 0 ∷ 0 ∷ 0 ∷ 0 ∷ 0 ∷ 0 ∷ 2 ∷ 0 ∷ 243 ∷ 0 ∷ 1 ∷ 0 ∷ 0 ∷ 0 ∷ 0 ∷ 0 ∷ 1 ∷
    0 ∷ 0 ∷ 0 ∷ 0 ∷ 0 ∷ 172 ∷ 0 ∷ 0 ∷ 0 ∷ 0 ∷ 0 ∷ 0 ∷ 0 ∷ 52 ∷ 0 ∷ 0 ∷ 0 ∷ 0 ∷ 0 ∷ 40 ∷ 0 ∷ 7 ∷ 0 ∷ 4 ∷ 0 ∷ 23 ∷ 5 ∷ 0 ∷
    0 ∷ 131 ∷ 37 ∷ 197 ∷ 0 ∷ 3 ∷ 38 ∷ 5 ∷ 1 ∷ 0 ∷ 0 ∷ 1 ∷ 0 ∷ 0 ∷ 0 ∷ 1 ∷ 0 ∷ 0 ∷ 0 ∷ 0 ∷ 0 ∷ 0 ∷ 0 ∷ 0 ∷ 0 ∷ 0 ∷ 0 ∷
    0 ∷ 0 ∷ 0 ∷ 0 ∷ 0 ∷ 0 ∷ 1 ∷ 0 ∷ 0 ∷ 0 ∷ 0 ∷ 0 ∷ 1 ∷ 0 ∷ 0 ∷ 0 ∷ 0 ∷ 0 ∷ 16 ∷ 0 ∷ 1 ∷ 0 ∷ 0 ∷ 115 ∷ 116 ∷ 97 ∷ 114 ∷
    116 ∷ 0 ∷ 0 ∷ 0 ∷ 0 ∷ 1 ∷ 0 ∷ 20 ∷ 1 ∷ 0 ∷ 0 ∷ 0 ∷ 0 ∷ 0 ∷ 0 ∷ 0 ∷ 0 ∷ 1 ∷ 0 ∷ 23 ∷ 1 ∷ 0 ∷ 0 ∷ 12 ∷ 0 ∷ 0 ∷ 0 ∷ 4 ∷
    0 ∷ 1 ∷ 0 ∷ 24 ∷ 1 ∷ 0 ∷ 0 ∷ 0 ∷ 0 ∷ 0 ∷ 0 ∷ 0 ∷ 0 ∷ 1 ∷ 0 ∷ 23 ∷ 1 ∷ 0 ∷ 0 ∷ 16 ∷ 0 ∷ 0 ∷ 0 ∷ 8 ∷ 0 ∷ 1 ∷ 0 ∷ 24 ∷
    1 ∷ 0 ∷ 0 ∷ 0 ∷ 0 ∷ 0 ∷ 0 ∷ 0 ∷ 0 ∷ 0 ∷ 0 ∷ 0 ∷ 0 ∷ 0 ∷ 0 ∷ 0 ∷ 0 ∷ 0 ∷ 0 ∷ 0 ∷ 0 ∷ 0 ∷ 0 ∷ 0 ∷ 0 ∷ 0 ∷ 0 ∷ 0 ∷ 0 ∷
    0 ∷ 0 ∷ 0 ∷ 0 ∷ 0 ∷ 0 ∷ 0 ∷ 0 ∷ 0 ∷ 0 ∷ 0 ∷ 0 ∷ 0 ∷ 0 ∷ 0 ∷ 0 ∷ 0 ∷ 0 ∷ 0 ∷ 0 ∷ 0 ∷ 0 ∷ 1 ∷ 0 ∷ 0 ∷ 0 ∷ 6 ∷ 0 ∷ 0 ∷
    0 ∷ 0 ∷ 0 ∷ 1 ∷ 0 ∷ 52 ∷ 0 ∷ 0 ∷ 0 ∷ 12 ∷ 0 ∷ 0 ∷ 0 ∷ 0 ∷ 0 ∷ 0 ∷ 0 ∷ 0 ∷ 0 ∷ 0 ∷ 0 ∷ 4 ∷ 0 ∷ 0 ∷ 0 ∷ 0 ∷ 0 ∷ 0 ∷
    0 ∷ 0 ∷ 0 ∷ 0 ∷ 0 ∷ 1 ∷ 0 ∷ 0 ∷ 0 ∷ 3 ∷ 0 ∷ 0 ∷ 0 ∷ 12 ∷ 0 ∷ 1 ∷ 0 ∷ 64 ∷ 0 ∷ 0 ∷ 0 ∷ 8 ∷ 0 ∷ 0 ∷ 0 ∷ 0 ∷ 0 ∷ 0 ∷
    0 ∷ 0 ∷ 0 ∷ 0 ∷ 0 ∷ 4 ∷ 0 ∷ 0 ∷ 0 ∷ 0 ∷ 0 ∷ 0 ∷ 0 ∷ 0 ∷ 0 ∷ 0 ∷ 0 ∷ 2 ∷ 0 ∷ 0 ∷ 0 ∷ 0 ∷ 0 ∷ 0 ∷ 0 ∷ 0 ∷ 0 ∷ 0 ∷ 0 ∷
    72 ∷ 0 ∷ 0 ∷ 0 ∷ 32 ∷ 0 ∷ 0 ∷ 0 ∷ 4 ∷ 0 ∷ 0 ∷ 0 ∷ 1 ∷ 0 ∷ 0 ∷ 0 ∷ 4 ∷ 0 ∷ 0 ∷ 0 ∷ 16 ∷ 0 ∷ 0 ∷ 0 ∷ 0 ∷ 0 ∷ 0 ∷ 0 ∷
    3 ∷ 0 ∷ 0 ∷ 0 ∷ 0 ∷ 0 ∷ 0 ∷ 0 ∷ 0 ∷ 0 ∷ 0 ∷ 0 ∷ 104 ∷ 0 ∷ 0 ∷ 0 ∷ 8 ∷ 0 ∷ 0 ∷ 0 ∷ 0 ∷ 0 ∷ 0 ∷ 0 ∷ 0 ∷ 0 ∷ 0 ∷ 0 ∷
    1 ∷ 0 ∷ 0 ∷ 0 ∷ 0 ∷ 0 ∷ 0 ∷ 0 ∷ 0 ∷ 0 ∷ 0 ∷ 0 ∷ 4 ∷ 0 ∷ 0 ∷ 0 ∷ 64 ∷ 0 ∷ 0 ∷ 0 ∷ 0 ∷ 0 ∷ 0 ∷ 0 ∷ 112 ∷ 0 ∷ 0 ∷ 0 ∷
    36 ∷ 0 ∷ 0 ∷ 0 ∷ 3 ∷ 0 ∷ 0 ∷ 0 ∷ 1 ∷ 0 ∷ 0 ∷ 0 ∷ 4 ∷ 0 ∷ 0 ∷ 0 ∷ 12 ∷ 0 ∷ 0 ∷ 0 ∷ 0 ∷ 0 ∷ 0 ∷ 0 ∷ 4 ∷ 0 ∷ 0 ∷ 0 ∷
    64 ∷ 0 ∷ 0 ∷ 0 ∷ 0 ∷ 0 ∷ 0 ∷ 0 ∷ 148 ∷ 0 ∷ 0 ∷ 0 ∷ 24 ∷ 0 ∷ 0 ∷ 0 ∷ 3 ∷ 0 ∷ 0 ∷ 0 ∷ 1 ∷ 0 ∷ 0 ∷ 0 ∷ 4 ∷ 0 ∷ 0 ∷ 0 ∷
    12 ∷ 0 ∷ 0 ∷ 0 ∷ []

-- the last two entries of the first section and the two of the second change places: so the slot is at 0x10010. Each entry is
-- there as before, and as often
abbrev pub exchanged : List ℕ
exchanged = take 124 paired ++ (take 24 (drop 148 paired) ++ (take 24 (drop 124 paired) ++ drop 172 paired))

fault-paired : fault paired ≡ None
unfolding has_magic is_current has_table header_fault passes_end is_nameless has_symbol_shape is_bad_symtab is_symbolless has_rela_shape is_bad_rela section_fault elf_fault entry_of table_of count_of byte_at number_at is_static_relocation is_kept rela_count entry_offset addend_word rela any_below section is_allocated is_stored has_content content is_of_kind is_symtab symbol_count symbol_offset symbol name_of least_below greatest_below has_sections some_ends_too_high is_too_large meets_below has_overlap has_dynamic has_tls is_entry_outside layout_fault off stored_end written_from text_of layout lowest highest raised_start distance start_of spans patched bytes_below from_base big_word little_word records spell class value_of number_patch body_of converted flat fault fields fields_of section_patch bare word_patch reloc row_of first_below is_high_at high_of names low_of slot_by slot_of holds_slot slot_section sum_below high_ends ends_of absolute relative is_place_outside is_lone_low is_unpaired holds_value slot_word is_slot_wrong is_mismatch first_fault reloc_fault effects.spans first_some entry_fault faults.section_fault relocs_fault target_fault overlap_fault fields_in spans_in spans_of numbered words target_outside word_overlap imm_i imm_u
fault-paired = refl

fault-exchanged : fault exchanged ≡ None
unfolding has_magic is_current has_table header_fault passes_end is_nameless has_symbol_shape is_bad_symtab is_symbolless has_rela_shape is_bad_rela section_fault elf_fault entry_of table_of count_of byte_at number_at is_static_relocation is_kept rela_count entry_offset addend_word rela any_below section is_allocated is_stored has_content content is_of_kind is_symtab symbol_count symbol_offset symbol name_of least_below greatest_below has_sections some_ends_too_high is_too_large meets_below has_overlap has_dynamic has_tls is_entry_outside layout_fault off stored_end written_from text_of layout lowest highest raised_start distance start_of spans patched bytes_below from_base big_word little_word records spell class value_of number_patch body_of converted flat fault fields fields_of section_patch bare word_patch reloc row_of first_below is_high_at high_of names low_of slot_by slot_of holds_slot slot_section sum_below high_ends ends_of absolute relative is_place_outside is_lone_low is_unpaired holds_value slot_word is_slot_wrong is_mismatch first_fault reloc_fault effects.spans first_some entry_fault faults.section_fault relocs_fault target_fault overlap_fault fields_in spans_in spans_of numbered words target_outside word_overlap imm_i imm_u
fault-exchanged = refl

entry-5-0 : reloc exchanged 5 0 ≡ reloc paired 5 0
unfolding entry_offset addend_word rela table_of count_of byte_at number_at section symbol symbol_offset is_allocated class value_of reloc row_of
entry-5-0 = refl

entry-5-1 : reloc exchanged 6 0 ≡ reloc paired 5 1
unfolding entry_offset addend_word rela table_of count_of byte_at number_at section symbol symbol_offset is_allocated class value_of reloc row_of
entry-5-1 = refl

entry-5-2 : reloc exchanged 6 1 ≡ reloc paired 5 2
unfolding entry_offset addend_word rela table_of count_of byte_at number_at section symbol symbol_offset is_allocated class value_of reloc row_of
entry-5-2 = refl

entry-6-0 : reloc exchanged 5 1 ≡ reloc paired 6 0
unfolding entry_offset addend_word rela table_of count_of byte_at number_at section symbol symbol_offset is_allocated class value_of reloc row_of
entry-6-0 = refl

entry-6-1 : reloc exchanged 5 2 ≡ reloc paired 6 1
unfolding entry_offset addend_word rela table_of count_of byte_at number_at section symbol symbol_offset is_allocated class value_of reloc row_of
entry-6-1 = refl

-- the last byte of the one record
record-paired : slice_index (flat paired 4096) 151 ≡ 76
unfolding has_magic is_current has_table header_fault passes_end is_nameless has_symbol_shape is_bad_symtab is_symbolless has_rela_shape is_bad_rela section_fault elf_fault entry_of table_of count_of byte_at number_at is_static_relocation is_kept rela_count entry_offset addend_word rela any_below section is_allocated is_stored has_content content is_of_kind is_symtab symbol_count symbol_offset symbol name_of least_below greatest_below has_sections some_ends_too_high is_too_large meets_below has_overlap has_dynamic has_tls is_entry_outside layout_fault off stored_end written_from text_of layout lowest highest raised_start distance start_of spans patched bytes_below from_base big_word little_word records spell class value_of number_patch body_of converted flat fault fields fields_of section_patch bare word_patch reloc row_of first_below is_high_at high_of names low_of slot_by slot_of holds_slot slot_section sum_below high_ends ends_of absolute relative is_place_outside is_lone_low is_unpaired holds_value slot_word is_slot_wrong is_mismatch first_fault reloc_fault effects.spans first_some entry_fault faults.section_fault relocs_fault target_fault overlap_fault fields_in spans_in spans_of numbered words target_outside word_overlap imm_i imm_u
record-paired = refl

record-exchanged : slice_index (flat exchanged 4096) 151 ≡ 80
unfolding has_magic is_current has_table header_fault passes_end is_nameless has_symbol_shape is_bad_symtab is_symbolless has_rela_shape is_bad_rela section_fault elf_fault entry_of table_of count_of byte_at number_at is_static_relocation is_kept rela_count entry_offset addend_word rela any_below section is_allocated is_stored has_content content is_of_kind is_symtab symbol_count symbol_offset symbol name_of least_below greatest_below has_sections some_ends_too_high is_too_large meets_below has_overlap has_dynamic has_tls is_entry_outside layout_fault off stored_end written_from text_of layout lowest highest raised_start distance start_of spans patched bytes_below from_base big_word little_word records spell class value_of number_patch body_of converted flat fault fields fields_of section_patch bare word_patch reloc row_of first_below is_high_at high_of names low_of slot_by slot_of holds_slot slot_section sum_below high_ends ends_of absolute relative is_place_outside is_lone_low is_unpaired holds_value slot_word is_slot_wrong is_mismatch first_fault reloc_fault effects.spans first_some entry_fault faults.section_fault relocs_fault target_fault overlap_fault fields_in spans_in spans_of numbered words target_outside word_overlap imm_i imm_u
record-exchanged = refl

apart : ◌≡◌ {A = ℕ} 76 80 → ⊥
apart same = omega arith

flats_differ : flat paired 4096 ≢ flat exchanged 4096
flats_differ same = apart (sym record-paired ∙ ap (λ bytes. slice_index bytes 151) same ∙ record-exchanged)

-- ---- they agree

small_bytes : (bytes : List ℕ) → list_all (λ n. nat_lt n 256) bytes ≡ true → IsBytes bytes
small_bytes [] small i = omega arith
small_bytes (n ∷ bytes) small zero = ltb-true _ _ (and_parts (nat_lt n 256) (list_all (λ n. nat_lt n 256) bytes) small).0
small_bytes (n ∷ bytes) small (suc i) = small_bytes bytes (and_parts (nat_lt n 256) (list_all (λ n. nat_lt n 256) bytes) small).1 i

below_all : (P : ℕ → Type 0) (n : ℕ) → Each P (range_with_len 0 n) → (i : ℕ) → i < n → P i
below_all P n each i below = member_has P (range_with_len 0 n) each i (has-range 0 n i (omega arith) (omega arith))

abbrev SameSection : List ℕ → List ℕ → ℕ → Type 0
SameSection e f i = is_laid_out (section e i) ≡ true → (section f i ≡ section e i) × (content f (section f i) ≡ content e (section e i))

count-paired : count_of paired ≡ 7
unfolding table_of count_of byte_at number_at section is_allocated is_stored content is_static_relocation is_kept rela_count
count-paired = refl

first-paired : rela_count paired 5 ≡ 3
unfolding table_of count_of byte_at number_at section is_allocated is_stored content is_static_relocation is_kept rela_count
first-paired = refl

second-paired : rela_count paired 6 ≡ 2
unfolding table_of count_of byte_at number_at section is_allocated is_stored content is_static_relocation is_kept rela_count
second-paired = refl

kept-paired : (is_kept paired 5 ≡ true) × (is_kept paired 6 ≡ true)
unfolding table_of count_of byte_at number_at section is_allocated is_stored content is_static_relocation is_kept rela_count
kept-paired = (refl, refl)

count-exchanged : count_of exchanged ≡ 7
unfolding table_of count_of byte_at number_at section is_allocated is_stored content is_static_relocation is_kept rela_count
count-exchanged = refl

first-exchanged : rela_count exchanged 5 ≡ 3
unfolding table_of count_of byte_at number_at section is_allocated is_stored content is_static_relocation is_kept rela_count
first-exchanged = refl

second-exchanged : rela_count exchanged 6 ≡ 2
unfolding table_of count_of byte_at number_at section is_allocated is_stored content is_static_relocation is_kept rela_count
second-exchanged = refl

kept-exchanged : (is_kept exchanged 5 ≡ true) × (is_kept exchanged 6 ≡ true)
unfolding table_of count_of byte_at number_at section is_allocated is_stored content is_static_relocation is_kept rela_count
kept-exchanged = (refl, refl)

sections-paired : Each (SameSection paired exchanged) (range_with_len 0 7)
unfolding table_of count_of byte_at number_at section is_allocated is_stored content is_static_relocation is_kept rela_count
sections-paired = (λ is. absurd (cc), (λ is. (refl, refl), (λ is. (refl, refl), (λ is. absurd (cc), (λ is. absurd (cc), (λ is. absurd (cc), (λ is. absurd (cc), tt)))))))

others-paired : Each (λ i. is_kept paired i ≡ false) (range_with_len 0 5)
unfolding table_of count_of byte_at number_at section is_allocated is_stored content is_static_relocation is_kept rela_count
others-paired = (refl, (refl, (refl, (refl, (refl, tt)))))

sections-exchanged : Each (SameSection exchanged paired) (range_with_len 0 7)
unfolding table_of count_of byte_at number_at section is_allocated is_stored content is_static_relocation is_kept rela_count
sections-exchanged = (λ is. absurd (cc), (λ is. (refl, refl), (λ is. (refl, refl), (λ is. absurd (cc), (λ is. absurd (cc), (λ is. absurd (cc), (λ is. absurd (cc), tt)))))))

others-exchanged : Each (λ i. is_kept exchanged i ≡ false) (range_with_len 0 5)
unfolding table_of count_of byte_at number_at section is_allocated is_stored content is_static_relocation is_kept rela_count
others-exchanged = (refl, (refl, (refl, (refl, (refl, tt)))))

section_twin : (e f : List ℕ) (i : ℕ) → count_of f ≡ 7 → i < 7 → is_laid_out (section e i) ≡ true → (section f i ≡ section e i) × (content f (section f i) ≡ content e (section e i)) → HasTwin e i f
section_twin e f i count below laid same = record {
  index = i;
  is = record {
    below = omega (arith, count);
    laid = ap is_laid_out same.0 ∙ laid;
    addr = ap (λ s. s.addr) same.0;
    size = ap (λ s. s.size) same.0;
    flags = ap (λ s. s.flags) same.0;
    stored = ap is_stored same.0;
    content = λ stored. same.1;
  };
}

all_sections : (e f : List ℕ) → count_of e ≡ 7 → count_of f ≡ 7 → Each (SameSection e f) (range_with_len 0 7) → HasSections e f
all_sections e f e_count f_count each i below laid =
    let small : i < 7 = omega (arith, e_count) in
    section_twin e f i f_count small laid (below_all (SameSection e f) 7 each i small laid)

entry-same : entry_of paired ≡ entry_of exchanged
unfolding entry_of table_of count_of byte_at number_at section is_allocated is_stored content is_static_relocation is_kept rela_count
entry-same = refl

same_sections : HaveSameSections paired exchanged
same_sections = record {
  entry = entry-same;
  there = all_sections paired exchanged count-paired count-exchanged sections-paired;
  back = all_sections exchanged paired count-exchanged count-paired sections-exchanged;
}

-- the entries of the two sections
record HasEntries (e : List ℕ) : Type 0 where
  count : count_of e ≡ 7
  first : rela_count e 5 ≡ 3
  second : rela_count e 6 ≡ 2
  kept : (is_kept e 5 ≡ true) × (is_kept e 6 ≡ true)
  others : Each (λ i. is_kept e i ≡ false) (range_with_len 0 5)

twin_in_first : (e f : List ℕ) (i j m : ℕ) → HasEntries f → m < 3 → reloc f 5 m ≡ reloc e i j → HasTwinReloc e i j f
twin_in_first e f i j m has below same = record { section = 5; index = m; is = record { kept = has.kept.0; below = omega (arith, has.first); same = same } }

twin_in_second : (e f : List ℕ) (i j m : ℕ) → HasEntries f → m < 2 → reloc f 6 m ≡ reloc e i j → HasTwinReloc e i j f
twin_in_second e f i j m has below same = record { section = 6; index = m; is = record { kept = has.kept.1; below = omega (arith, has.second); same = same } }

-- the five entries, of which the first stays
record AreExchanged (e f : List ℕ) : Type 0 where
  got : reloc f 5 0 ≡ reloc e 5 0
  first_high : reloc f 6 0 ≡ reloc e 5 1
  first_low : reloc f 6 1 ≡ reloc e 5 2
  second_high : reloc f 5 1 ≡ reloc e 6 0
  second_low : reloc f 5 2 ≡ reloc e 6 1

has_relocs : (e f : List ℕ) → HasEntries e → HasEntries f → AreExchanged e f → HasRelocs e f
has_relocs e f e_has f_has x i j kept below =
    let small = is_kept_below e i kept in
    elim (cases_lt i 5) [
      | inl other ↦ absurd (let dropped = below_all (λ i. is_kept e i ≡ false) 5 e_has.others i other in let both : true ≡ false = sym kept ∙ dropped in cc)
      | inr from ↦ elim (cases_eq i 5) [
        | inl first ↦
            subst (λ i. HasTwinReloc e i j f) (sym first) (below_all (λ j. HasTwinReloc e 5 j f) 3
            (twin_in_first e f 5 0 0 f_has (omega arith) x.got, (twin_in_second e f 5 1 0 f_has (omega arith) x.first_high, (twin_in_second e f 5 2 1 f_has (omega arith) x.first_low, tt)))
            j (omega (arith, e_has.first, subst (λ i. j < rela_count e i) first below)))
        | inr later ↦
            let second : i ≡ 6 = omega (arith, e_has.count) in
            subst (λ i. HasTwinReloc e i j f) (sym second) (below_all (λ j. HasTwinReloc e 6 j f) 2
            (twin_in_first e f 6 0 1 f_has (omega arith) x.second_high, (twin_in_first e f 6 1 2 f_has (omega arith) x.second_low, tt))
            j (omega (arith, e_has.second, subst (λ i. j < rela_count e i) second below)))
      ]
    ]

entries-paired : HasEntries paired
entries-paired = record { count = count-paired; first = first-paired; second = second-paired; kept = kept-paired; others = others-paired }

entries-exchanged : HasEntries exchanged
entries-exchanged = record { count = count-exchanged; first = first-exchanged; second = second-exchanged; kept = kept-exchanged; others = others-exchanged }

agree : Agrees paired exchanged
agree = record {
  sections = same_sections;
  there = has_relocs paired exchanged entries-paired entries-exchanged (record { got = entry-5-0; first_high = entry-5-1; first_low = entry-5-2; second_high = entry-6-0; second_low = entry-6-1 });
  back = has_relocs exchanged paired entries-exchanged entries-paired (record { got = sym entry-5-0; first_high = sym entry-6-0; first_low = sym entry-6-1; second_high = sym entry-5-1; second_low = sym entry-5-2 });
}

pub differ_though_agreed : DifferThoughAgreed
differ_though_agreed = record {
  one = paired;
  other = exchanged;
  one_bytes = small_bytes paired refl;
  other_bytes = small_bytes exchanged refl;
  one_accepted = fault-paired;
  other_accepted = fault-exchanged;
  agree = agree;
  differ = flats_differ;
}
