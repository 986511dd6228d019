-- The programs of the demo can be converted. Of program i only bytes that no relocation reads say its number, so its fault computes.
use Rattle.std.proofs.Common.{◌≡◌, ℕ, None, refl}
use Rattle.elf32_reader.specs.Faults.{has_magic, is_current, has_table, header_fault, passes_end, is_nameless, has_symbol_shape, is_bad_symtab, is_symbolless, has_rela_shape, is_bad_rela, section_fault, elf_fault}
use Rattle.elf32_reader.specs.Header.{entry_of, table_of, count_of}
use Rattle.elf32_reader.specs.Relas.{is_static_relocation, is_kept, rela_count, entry_offset, addend_word, rela}
use Rattle.byte_words.specs.Search.{any_below}
use Rattle.elf32_reader.specs.Sections.{section, is_allocated, is_stored, has_content, content, is_of_kind}
use Rattle.elf32_reader.specs.Symbols.{is_symtab, symbol_count, symbol_offset, symbol, name_of}
use Rattle.flat_layout.specs.Extremes.{least_below, greatest_below}
use Rattle.flat_layout.specs.Fault.{has_sections, some_ends_too_high, is_too_large, meets_below, has_overlap, has_dynamic, has_tls, is_entry_outside, layout_fault}
use Rattle.flat_layout.specs.Layout.{off, stored_end, written_from, text_of, layout}
use Rattle.flat_layout.specs.Numbering.{lowest, highest, raised_start, distance, start_of}
use Rattle.byte_words.specs.Patches.{spans, patched, bytes_below, from_base, big_word, little_word}
use Rattle.bflt_format.specs.Spelling.{spell}
use Rattle.psabi_relocs.specs.Class.{class, value_of}
use Rattle.psabi_relocs.specs.Row.{row_of}
use Rattle.psabi_relocs.specs.Search.{first_below}
use Rattle.psabi_relocs.specs.Reloc.{reloc}
use Rattle.psabi_relocs.specs.Pair.{is_high_at, high_of, names, low_of}
use Rattle.psabi_relocs.specs.Group.{sum_below}
use Rattle.psabi_relocs.specs.Slot.{slot_by, slot_of, holds_slot, slot_section, slot_word, is_slot_wrong}
use Rattle.psabi_relocs.specs.Field.{high_ends, ends_of, absolute, relative, fields, holds_value, is_mismatch}
use Rattle.psabi_relocs.specs.Fault.{is_place_outside, is_lone_low, is_unpaired, first_fault, reloc_fault}
use Rattle.psabi_relocs.specs.Effect as effects
use Rattle.elf2flt_tool.specs.Converted.{number_patch, body_of, converted, flat}
use Rattle.elf2flt_tool.specs.Fault as faults
use Rattle.elf2flt_tool.specs.Fault.{first_some, entry_fault, relocs_fault, target_fault, overlap_fault, fault}
use Rattle.elf2flt_tool.specs.Relocs.{fields_in, fields_of, spans_in, spans_of}
use Rattle.elf2flt_tool.specs.Image.{section_patch, bare, word_patch}
use Rattle.elf2flt_tool.specs.Word.{numbered, words, records, target_outside, word_overlap}
use Rattle.byte_words.specs.Numbers.{byte_at, number_at}
use Rattle.rv32im_table.specs.Immediate.{imm_u, imm_i, imm_b}
use Rattle.elf_maker.specs.Demo.{demo_file}
use Rattle.elf_maker.specs.Values.{file_bytes, items_of, symbol_bytes}
use Rattle.elf_maker.specs.Spelling.{words_text, halves_text, header_of, table_header, header_text, section_text, file_text, rela_text, relas_text}

pub program_has_no_fault : (i : ℕ) → fault (demo_file i) ≡ None
unfolding has_magic is_current has_table header_fault passes_end is_nameless has_symbol_shape is_bad_symtab is_symbolless has_rela_shape is_bad_rela section_fault elf_fault entry_of table_of count_of byte_at number_at is_static_relocation is_kept rela_count entry_offset addend_word rela any_below section is_allocated is_stored has_content content is_of_kind is_symtab symbol_count symbol_offset symbol name_of least_below greatest_below has_sections some_ends_too_high is_too_large meets_below has_overlap has_dynamic has_tls is_entry_outside layout_fault off stored_end written_from text_of layout lowest highest raised_start distance start_of spans patched bytes_below from_base big_word little_word records spell class value_of number_patch body_of converted flat fault fields fields_of section_patch bare word_patch reloc row_of first_below is_high_at high_of names low_of slot_by slot_of holds_slot slot_section sum_below high_ends ends_of absolute relative is_place_outside is_lone_low is_unpaired holds_value slot_word is_slot_wrong is_mismatch first_fault reloc_fault effects.spans first_some entry_fault faults.section_fault relocs_fault target_fault overlap_fault fields_in spans_in spans_of numbered words target_outside word_overlap demo_file file_bytes items_of symbol_bytes file_text section_text header_text header_of table_header words_text halves_text rela_text relas_text imm_u imm_i imm_b
program_has_no_fault i = refl
