-- The worked example convert-one-word: the definitions, computed on its ELF file, give its 144 bytes.
use Rattle.std.proofs.Common.{◌≡◌, ℕ, List, [], ◌∷◌, ◌++◌, take, drop, Some, None, slice_set, refl}
use Rattle.psabi_relocs.specs.declared.fault.RelocFault.TheVariants.{Unpaired}
use Rattle.psabi_relocs.specs.declared.row.Width.TheVariants.{Bits32}
use Rattle.psabi_relocs.specs.Difference.{number_below, group_number}
use Rattle.elf2flt_tool.specs.declared.refusal.Refusal.TheVariants as refusals
use Rattle.elf32_reader.specs.Faults.{has_magic, is_current, has_table, header_fault, passes_end, is_nameless, has_symbol_shape, is_bad_symtab, is_symbolless, has_rela_shape, is_bad_rela, section_fault, elf_fault}
use Rattle.elf32_reader.specs.Header.{entry_of, table_of, count_of}
use Rattle.elf32_reader.specs.Relas.{is_static_relocation, is_kept, rela_count, entry_offset, addend_word, rela}
use Rattle.byte_words.specs.Search.{any_below}
use Rattle.elf32_reader.specs.Sections.{section, is_allocated, is_stored, has_content, content, is_of_kind}
use Rattle.elf32_reader.specs.Symbols.{is_symtab, symbol_count, symbol_offset, symbol, name_of}
use Rattle.flat_layout.specs.Extremes.{least_below, greatest_below}
use Rattle.flat_layout.specs.Fault.{has_sections, some_ends_too_high, is_too_large, meets_below, has_overlap, has_dynamic, has_tls, is_entry_outside, layout_fault}
use Rattle.flat_layout.specs.Layout.{off, stored_end, written_from, text_of, layout}
use Rattle.flat_layout.specs.Numbering.{lowest, highest, raised_start, distance, start_of}
use Rattle.byte_words.specs.Patches.{spans, patched, bytes_below, from_base, big_word, little_word}
use Rattle.bflt_format.specs.Spelling.{spell}
use Rattle.psabi_relocs.specs.Class.{class, value_of}
use Rattle.psabi_relocs.specs.Row.{row_of}
use Rattle.psabi_relocs.specs.Search.{first_below}
use Rattle.psabi_relocs.specs.Reloc.{reloc}
use Rattle.psabi_relocs.specs.Pair.{is_high_at, high_of, names, low_of}
use Rattle.psabi_relocs.specs.Group.{sum_below}
use Rattle.psabi_relocs.specs.Slot.{slot_by, slot_of, holds_slot, slot_section, slot_word, is_slot_wrong}
use Rattle.psabi_relocs.specs.Field.{high_ends, ends_of, absolute, relative, fields, holds_value, is_mismatch}
use Rattle.psabi_relocs.specs.Fault.{is_place_outside, is_lone_low, is_unpaired, first_fault, reloc_fault}
use Rattle.psabi_relocs.specs.Effect as effects
use Rattle.elf2flt_tool.specs.Converted.{number_patch, body_of, converted, flat}
use Rattle.elf2flt_tool.specs.Fault as faults
use Rattle.elf2flt_tool.specs.Fault.{first_some, entry_fault, relocs_fault, target_fault, overlap_fault, fault}
use Rattle.elf2flt_tool.specs.Relocs.{fields_in, fields_of, spans_in, spans_of}
use Rattle.elf2flt_tool.specs.Image.{section_patch, bare, word_patch}
use Rattle.elf2flt_tool.specs.Word.{numbered, words, records, target_outside, word_overlap}
use Rattle.byte_words.specs.Numbers.{byte_at, number_at}

-- .text at 0x10000 (two instructions), .data at 0x10008 (the word 0x00010000) with an R_RISCV_32 of the symbol at 0x10000
abbrev pub one_word : List ℕ
one_word =
    127 ∷ 69 ∷ 76 ∷ 70 ∷ 1 ∷ 1 ∷ 1 ∷ 0 ∷ 0 ∷ 0 ∷ 0 ∷ 0 ∷ 0 ∷ 0 ∷ 0 ∷ 0 ∷ 2 ∷ 0 ∷ 243 ∷ 0 ∷ 1 ∷ 0 ∷ 0 ∷ 0 ∷ 0 ∷ 0 ∷ 1 ∷
    0 ∷ 0 ∷ 0 ∷ 0 ∷ 0 ∷ 168 ∷ 0 ∷ 0 ∷ 0 ∷ 0 ∷ 0 ∷ 0 ∷ 0 ∷ 52 ∷ 0 ∷ 0 ∷ 0 ∷ 0 ∷ 0 ∷ 40 ∷ 0 ∷ 7 ∷ 0 ∷ 6 ∷ 0 ∷ 19 ∷ 5 ∷
    0 ∷ 0 ∷ 147 ∷ 8 ∷ 208 ∷ 5 ∷ 0 ∷ 0 ∷ 1 ∷ 0 ∷ 0 ∷ 0 ∷ 0 ∷ 0 ∷ 0 ∷ 0 ∷ 0 ∷ 0 ∷ 0 ∷ 0 ∷ 0 ∷ 0 ∷ 0 ∷ 0 ∷ 0 ∷ 0 ∷ 1 ∷ 0 ∷
    0 ∷ 0 ∷ 0 ∷ 0 ∷ 1 ∷ 0 ∷ 0 ∷ 0 ∷ 0 ∷ 0 ∷ 16 ∷ 0 ∷ 1 ∷ 0 ∷ 0 ∷ 115 ∷ 116 ∷ 97 ∷ 114 ∷ 116 ∷ 0 ∷ 8 ∷ 0 ∷ 1 ∷ 0 ∷ 1 ∷
    1 ∷ 0 ∷ 0 ∷ 0 ∷ 0 ∷ 0 ∷ 0 ∷ 0 ∷ 46 ∷ 116 ∷ 101 ∷ 120 ∷ 116 ∷ 0 ∷ 46 ∷ 100 ∷ 97 ∷ 116 ∷ 97 ∷ 0 ∷ 46 ∷ 115 ∷ 121 ∷
    109 ∷ 116 ∷ 97 ∷ 98 ∷ 0 ∷ 46 ∷ 115 ∷ 116 ∷ 114 ∷ 116 ∷ 97 ∷ 98 ∷ 0 ∷ 46 ∷ 114 ∷ 101 ∷ 108 ∷ 97 ∷ 46 ∷ 100 ∷ 97 ∷
    116 ∷ 97 ∷ 0 ∷ 46 ∷ 115 ∷ 104 ∷ 115 ∷ 116 ∷ 114 ∷ 116 ∷ 97 ∷ 98 ∷ 0 ∷ 0 ∷ 0 ∷ 0 ∷ 0 ∷ 0 ∷ 0 ∷ 0 ∷ 0 ∷ 0 ∷ 0 ∷ 0 ∷
    0 ∷ 0 ∷ 0 ∷ 0 ∷ 0 ∷ 0 ∷ 0 ∷ 0 ∷ 0 ∷ 0 ∷ 0 ∷ 0 ∷ 0 ∷ 0 ∷ 0 ∷ 0 ∷ 0 ∷ 0 ∷ 0 ∷ 0 ∷ 0 ∷ 0 ∷ 0 ∷ 0 ∷ 0 ∷ 0 ∷ 0 ∷ 0 ∷ 0 ∷
    0 ∷ 0 ∷ 0 ∷ 1 ∷ 0 ∷ 0 ∷ 0 ∷ 1 ∷ 0 ∷ 0 ∷ 0 ∷ 6 ∷ 0 ∷ 0 ∷ 0 ∷ 0 ∷ 0 ∷ 1 ∷ 0 ∷ 52 ∷ 0 ∷ 0 ∷ 0 ∷ 8 ∷ 0 ∷ 0 ∷ 0 ∷ 0 ∷
    0 ∷ 0 ∷ 0 ∷ 0 ∷ 0 ∷ 0 ∷ 0 ∷ 4 ∷ 0 ∷ 0 ∷ 0 ∷ 0 ∷ 0 ∷ 0 ∷ 0 ∷ 7 ∷ 0 ∷ 0 ∷ 0 ∷ 1 ∷ 0 ∷ 0 ∷ 0 ∷ 3 ∷ 0 ∷ 0 ∷ 0 ∷ 8 ∷ 0 ∷
    1 ∷ 0 ∷ 60 ∷ 0 ∷ 0 ∷ 0 ∷ 4 ∷ 0 ∷ 0 ∷ 0 ∷ 0 ∷ 0 ∷ 0 ∷ 0 ∷ 0 ∷ 0 ∷ 0 ∷ 0 ∷ 4 ∷ 0 ∷ 0 ∷ 0 ∷ 0 ∷ 0 ∷ 0 ∷ 0 ∷ 13 ∷ 0 ∷
    0 ∷ 0 ∷ 2 ∷ 0 ∷ 0 ∷ 0 ∷ 0 ∷ 0 ∷ 0 ∷ 0 ∷ 0 ∷ 0 ∷ 0 ∷ 0 ∷ 64 ∷ 0 ∷ 0 ∷ 0 ∷ 32 ∷ 0 ∷ 0 ∷ 0 ∷ 4 ∷ 0 ∷ 0 ∷ 0 ∷ 1 ∷ 0 ∷
    0 ∷ 0 ∷ 4 ∷ 0 ∷ 0 ∷ 0 ∷ 16 ∷ 0 ∷ 0 ∷ 0 ∷ 21 ∷ 0 ∷ 0 ∷ 0 ∷ 3 ∷ 0 ∷ 0 ∷ 0 ∷ 0 ∷ 0 ∷ 0 ∷ 0 ∷ 0 ∷ 0 ∷ 0 ∷ 0 ∷ 96 ∷ 0 ∷
    0 ∷ 0 ∷ 7 ∷ 0 ∷ 0 ∷ 0 ∷ 0 ∷ 0 ∷ 0 ∷ 0 ∷ 0 ∷ 0 ∷ 0 ∷ 0 ∷ 1 ∷ 0 ∷ 0 ∷ 0 ∷ 0 ∷ 0 ∷ 0 ∷ 0 ∷ 29 ∷ 0 ∷ 0 ∷ 0 ∷ 4 ∷ 0 ∷
    0 ∷ 0 ∷ 64 ∷ 0 ∷ 0 ∷ 0 ∷ 0 ∷ 0 ∷ 0 ∷ 0 ∷ 103 ∷ 0 ∷ 0 ∷ 0 ∷ 12 ∷ 0 ∷ 0 ∷ 0 ∷ 3 ∷ 0 ∷ 0 ∷ 0 ∷ 2 ∷ 0 ∷ 0 ∷ 0 ∷ 4 ∷ 0 ∷
    0 ∷ 0 ∷ 12 ∷ 0 ∷ 0 ∷ 0 ∷ 40 ∷ 0 ∷ 0 ∷ 0 ∷ 3 ∷ 0 ∷ 0 ∷ 0 ∷ 0 ∷ 0 ∷ 0 ∷ 0 ∷ 0 ∷ 0 ∷ 0 ∷ 0 ∷ 115 ∷ 0 ∷ 0 ∷ 0 ∷ 50 ∷
    0 ∷ 0 ∷ 0 ∷ 0 ∷ 0 ∷ 0 ∷ 0 ∷ 0 ∷ 0 ∷ 0 ∷ 0 ∷ 1 ∷ 0 ∷ 0 ∷ 0 ∷ 0 ∷ 0 ∷ 0 ∷ 0 ∷ []

abbrev pub one_word_flat : List ℕ
one_word_flat =
    98 ∷ 70 ∷ 76 ∷ 84 ∷ 0 ∷ 0 ∷ 0 ∷ 4 ∷ 0 ∷ 0 ∷ 0 ∷ 128 ∷ 0 ∷ 0 ∷ 0 ∷ 128 ∷ 0 ∷ 0 ∷ 0 ∷ 140 ∷ 0 ∷ 0 ∷ 0 ∷ 140 ∷ 0 ∷ 0 ∷
    16 ∷ 0 ∷ 0 ∷ 0 ∷ 0 ∷ 140 ∷ 0 ∷ 0 ∷ 0 ∷ 1 ∷ 0 ∷ 0 ∷ 0 ∷ 1 ∷ 0 ∷ 0 ∷ 0 ∷ 0 ∷ 0 ∷ 0 ∷ 0 ∷ 0 ∷ 0 ∷ 0 ∷ 0 ∷ 0 ∷ 0 ∷ 0 ∷
    0 ∷ 0 ∷ 0 ∷ 0 ∷ 0 ∷ 0 ∷ 0 ∷ 0 ∷ 0 ∷ 0 ∷ 0 ∷ 0 ∷ 0 ∷ 0 ∷ 0 ∷ 0 ∷ 0 ∷ 0 ∷ 0 ∷ 0 ∷ 0 ∷ 0 ∷ 0 ∷ 0 ∷ 0 ∷ 0 ∷ 0 ∷ 0 ∷ 0 ∷
    0 ∷ 0 ∷ 0 ∷ 0 ∷ 0 ∷ 0 ∷ 0 ∷ 0 ∷ 0 ∷ 0 ∷ 0 ∷ 0 ∷ 0 ∷ 0 ∷ 0 ∷ 0 ∷ 0 ∷ 0 ∷ 0 ∷ 0 ∷ 0 ∷ 0 ∷ 0 ∷ 0 ∷ 0 ∷ 0 ∷ 0 ∷ 0 ∷ 0 ∷
    0 ∷ 0 ∷ 0 ∷ 0 ∷ 0 ∷ 0 ∷ 0 ∷ 0 ∷ 0 ∷ 0 ∷ 0 ∷ 0 ∷ 0 ∷ 0 ∷ 0 ∷ 0 ∷ 19 ∷ 5 ∷ 0 ∷ 0 ∷ 147 ∷ 8 ∷ 208 ∷ 5 ∷ 0 ∷ 0 ∷ 0 ∷
    64 ∷ 0 ∷ 0 ∷ 0 ∷ 72 ∷ []

pub flat-one_word : flat one_word 4096 ≡ one_word_flat
unfolding has_magic is_current has_table header_fault passes_end is_nameless has_symbol_shape is_bad_symtab is_symbolless has_rela_shape is_bad_rela section_fault elf_fault entry_of table_of count_of byte_at number_at is_static_relocation is_kept rela_count entry_offset addend_word rela any_below section is_allocated is_stored has_content content is_of_kind is_symtab symbol_count symbol_offset symbol name_of least_below greatest_below has_sections some_ends_too_high is_too_large meets_below has_overlap has_dynamic has_tls is_entry_outside layout_fault off stored_end written_from text_of layout lowest highest raised_start distance start_of spans patched bytes_below from_base big_word little_word records spell class value_of number_patch body_of converted flat fault fields fields_of section_patch bare word_patch reloc row_of first_below is_high_at high_of names low_of slot_by slot_of holds_slot slot_section sum_below high_ends ends_of absolute relative is_place_outside is_lone_low is_unpaired holds_value slot_word is_slot_wrong is_mismatch first_fault reloc_fault effects.spans first_some entry_fault faults.section_fault relocs_fault target_fault overlap_fault fields_in spans_in spans_of numbered words target_outside word_overlap
flat-one_word = refl

pub fault-one_word : fault one_word ≡ None
unfolding has_magic is_current has_table header_fault passes_end is_nameless has_symbol_shape is_bad_symtab is_symbolless has_rela_shape is_bad_rela section_fault elf_fault entry_of table_of count_of byte_at number_at is_static_relocation is_kept rela_count entry_offset addend_word rela any_below section is_allocated is_stored has_content content is_of_kind is_symtab symbol_count symbol_offset symbol name_of least_below greatest_below has_sections some_ends_too_high is_too_large meets_below has_overlap has_dynamic has_tls is_entry_outside layout_fault off stored_end written_from text_of layout lowest highest raised_start distance start_of spans patched bytes_below from_base big_word little_word records spell class value_of number_patch body_of converted flat fault fields fields_of section_patch bare word_patch reloc row_of first_below is_high_at high_of names low_of slot_by slot_of holds_slot slot_section sum_below high_ends ends_of absolute relative is_place_outside is_lone_low is_unpaired holds_value slot_word is_slot_wrong is_mismatch first_fault reloc_fault effects.spans first_some entry_fault faults.section_fault relocs_fault target_fault overlap_fault fields_in spans_in spans_of numbered words target_outside word_overlap
fault-one_word = refl

-- with ADD32 (35) in place of 32 the entry is a group by itself, whose number goes with the image
lone_add : List ℕ
lone_add = slice_set one_word 107 35

fault-lone_add : fault lone_add ≡ Some (refusals.Reloc 5 0 Unpaired)
unfolding has_magic is_current has_table header_fault passes_end is_nameless has_symbol_shape is_bad_symtab is_symbolless has_rela_shape is_bad_rela section_fault elf_fault entry_of table_of count_of byte_at number_at is_static_relocation is_kept rela_count entry_offset addend_word rela any_below section is_allocated is_stored has_content content is_of_kind is_symtab symbol_count symbol_offset symbol name_of least_below greatest_below has_sections some_ends_too_high is_too_large meets_below has_overlap has_dynamic has_tls is_entry_outside layout_fault off stored_end written_from text_of layout lowest highest raised_start distance start_of spans patched bytes_below from_base big_word little_word records spell class value_of number_patch body_of converted flat fault fields fields_of section_patch bare word_patch reloc row_of first_below is_high_at high_of names low_of slot_by slot_of holds_slot slot_section sum_below high_ends ends_of absolute relative is_place_outside is_lone_low is_unpaired holds_value slot_word is_slot_wrong is_mismatch first_fault reloc_fault effects.spans first_some entry_fault faults.section_fault relocs_fault target_fault overlap_fault fields_in spans_in spans_of numbered words target_outside word_overlap lone_add
fault-lone_add = refl

number-lone_add : group_number lone_add 5 0x10008 Bits32 0 0 0 ≡ 0x10000
unfolding has_magic is_current has_table header_fault passes_end is_nameless has_symbol_shape is_bad_symtab is_symbolless has_rela_shape is_bad_rela section_fault elf_fault entry_of table_of count_of byte_at number_at is_static_relocation is_kept rela_count entry_offset addend_word rela any_below section is_allocated is_stored has_content content is_of_kind is_symtab symbol_count symbol_offset symbol name_of least_below greatest_below has_sections some_ends_too_high is_too_large meets_below has_overlap has_dynamic has_tls is_entry_outside layout_fault off stored_end written_from text_of layout lowest highest raised_start distance start_of spans patched bytes_below from_base big_word little_word records spell class value_of number_patch body_of converted flat fault fields fields_of section_patch bare word_patch reloc row_of first_below is_high_at high_of names low_of slot_by slot_of holds_slot slot_section sum_below high_ends ends_of absolute relative is_place_outside is_lone_low is_unpaired holds_value slot_word is_slot_wrong is_mismatch first_fault reloc_fault effects.spans first_some entry_fault faults.section_fault relocs_fault target_fault overlap_fault fields_in spans_in spans_of numbered words target_outside word_overlap lone_add number_below group_number
number-lone_add = refl

number-raised_lone_add : group_number lone_add 5 0x10008 Bits32 0 1 0 ≡ 0x10001
unfolding has_magic is_current has_table header_fault passes_end is_nameless has_symbol_shape is_bad_symtab is_symbolless has_rela_shape is_bad_rela section_fault elf_fault entry_of table_of count_of byte_at number_at is_static_relocation is_kept rela_count entry_offset addend_word rela any_below section is_allocated is_stored has_content content is_of_kind is_symtab symbol_count symbol_offset symbol name_of least_below greatest_below has_sections some_ends_too_high is_too_large meets_below has_overlap has_dynamic has_tls is_entry_outside layout_fault off stored_end written_from text_of layout lowest highest raised_start distance start_of spans patched bytes_below from_base big_word little_word records spell class value_of number_patch body_of converted flat fault fields fields_of section_patch bare word_patch reloc row_of first_below is_high_at high_of names low_of slot_by slot_of holds_slot slot_section sum_below high_ends ends_of absolute relative is_place_outside is_lone_low is_unpaired holds_value slot_word is_slot_wrong is_mismatch first_fault reloc_fault effects.spans first_some entry_fault faults.section_fault relocs_fault target_fault overlap_fault fields_in spans_in spans_of numbered words target_outside word_overlap lone_add number_below group_number
number-raised_lone_add = refl

-- the headers of .text and .data in the other order, with the entries' section and the symbol's renumbered, and a name changed
other_order : List ℕ
other_order = slice_set (slice_set (slice_set (take 208 one_word ++ (take 40 (drop 248 one_word) ++ (take 40 (drop 208 one_word) ++ drop 288 one_word))) 396 1) 90 2) 116 120

-- the entry is as it was
reloc-other_order : reloc other_order 5 0 ≡ reloc one_word 5 0
unfolding entry_offset addend_word rela table_of count_of byte_at number_at section symbol symbol_offset is_allocated name_of class value_of reloc row_of other_order
reloc-other_order = refl

fault-other_order : fault other_order ≡ None
unfolding has_magic is_current has_table header_fault passes_end is_nameless has_symbol_shape is_bad_symtab is_symbolless has_rela_shape is_bad_rela section_fault elf_fault entry_of table_of count_of byte_at number_at is_static_relocation is_kept rela_count entry_offset addend_word rela any_below section is_allocated is_stored has_content content is_of_kind is_symtab symbol_count symbol_offset symbol name_of least_below greatest_below has_sections some_ends_too_high is_too_large meets_below has_overlap has_dynamic has_tls is_entry_outside layout_fault off stored_end written_from text_of layout lowest highest raised_start distance start_of spans patched bytes_below from_base big_word little_word records spell class value_of number_patch body_of converted flat fault fields fields_of section_patch bare word_patch reloc row_of first_below is_high_at high_of names low_of slot_by slot_of holds_slot slot_section sum_below high_ends ends_of absolute relative is_place_outside is_lone_low is_unpaired holds_value slot_word is_slot_wrong is_mismatch first_fault reloc_fault effects.spans first_some entry_fault faults.section_fault relocs_fault target_fault overlap_fault fields_in spans_in spans_of numbered words target_outside word_overlap other_order
fault-other_order = refl

flat-other_order : flat other_order 4096 ≡ one_word_flat
unfolding has_magic is_current has_table header_fault passes_end is_nameless has_symbol_shape is_bad_symtab is_symbolless has_rela_shape is_bad_rela section_fault elf_fault entry_of table_of count_of byte_at number_at is_static_relocation is_kept rela_count entry_offset addend_word rela any_below section is_allocated is_stored has_content content is_of_kind is_symtab symbol_count symbol_offset symbol name_of least_below greatest_below has_sections some_ends_too_high is_too_large meets_below has_overlap has_dynamic has_tls is_entry_outside layout_fault off stored_end written_from text_of layout lowest highest raised_start distance start_of spans patched bytes_below from_base big_word little_word records spell class value_of number_patch body_of converted flat fault fields fields_of section_patch bare word_patch reloc row_of first_below is_high_at high_of names low_of slot_by slot_of holds_slot slot_section sum_below high_ends ends_of absolute relative is_place_outside is_lone_low is_unpaired holds_value slot_word is_slot_wrong is_mismatch first_fault reloc_fault effects.spans first_some entry_fault faults.section_fault relocs_fault target_fault overlap_fault fields_in spans_in spans_of numbered words target_outside word_overlap other_order
flat-other_order = refl

-- a strip: the header of .shstrtab is no longer counted, so no section has a name
stripped : List ℕ
stripped = slice_set (slice_set one_word 48 6) 50 0

fault-stripped : fault stripped ≡ None
unfolding has_magic is_current has_table header_fault passes_end is_nameless has_symbol_shape is_bad_symtab is_symbolless has_rela_shape is_bad_rela section_fault elf_fault entry_of table_of count_of byte_at number_at is_static_relocation is_kept rela_count entry_offset addend_word rela any_below section is_allocated is_stored has_content content is_of_kind is_symtab symbol_count symbol_offset symbol name_of least_below greatest_below has_sections some_ends_too_high is_too_large meets_below has_overlap has_dynamic has_tls is_entry_outside layout_fault off stored_end written_from text_of layout lowest highest raised_start distance start_of spans patched bytes_below from_base big_word little_word records spell class value_of number_patch body_of converted flat fault fields fields_of section_patch bare word_patch reloc row_of first_below is_high_at high_of names low_of slot_by slot_of holds_slot slot_section sum_below high_ends ends_of absolute relative is_place_outside is_lone_low is_unpaired holds_value slot_word is_slot_wrong is_mismatch first_fault reloc_fault effects.spans first_some entry_fault faults.section_fault relocs_fault target_fault overlap_fault fields_in spans_in spans_of numbered words target_outside word_overlap stripped
fault-stripped = refl

flat-stripped : flat stripped 4096 ≡ one_word_flat
unfolding has_magic is_current has_table header_fault passes_end is_nameless has_symbol_shape is_bad_symtab is_symbolless has_rela_shape is_bad_rela section_fault elf_fault entry_of table_of count_of byte_at number_at is_static_relocation is_kept rela_count entry_offset addend_word rela any_below section is_allocated is_stored has_content content is_of_kind is_symtab symbol_count symbol_offset symbol name_of least_below greatest_below has_sections some_ends_too_high is_too_large meets_below has_overlap has_dynamic has_tls is_entry_outside layout_fault off stored_end written_from text_of layout lowest highest raised_start distance start_of spans patched bytes_below from_base big_word little_word records spell class value_of number_patch body_of converted flat fault fields fields_of section_patch bare word_patch reloc row_of first_below is_high_at high_of names low_of slot_by slot_of holds_slot slot_section sum_below high_ends ends_of absolute relative is_place_outside is_lone_low is_unpaired holds_value slot_word is_slot_wrong is_mismatch first_fault reloc_fault effects.spans first_some entry_fault faults.section_fault relocs_fault target_fault overlap_fault fields_in spans_in spans_of numbered words target_outside word_overlap stripped
flat-stripped = refl
