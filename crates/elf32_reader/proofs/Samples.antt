-- The definitions, computed on the file of the example `convert-one-word`.
use Rattle.std.proofs.Common.{◌≡◌, ℕ, List, [], ◌∷◌, Some, None, set, refl}
use Rattle.std.specs.Prelude.{pos}
use Rattle.elf32_reader.specs.declared.fault.ElfFault.TheVariants.{Machine, SectionTable, SectionRange, SymbolRange, RelaShape}
use Rattle.byte_words.specs.Search.{any_below}
use Rattle.elf32_reader.specs.Header.{table_of, count_of}
use Rattle.elf32_reader.specs.Sections.{section, is_allocated, has_content, content, is_of_kind}
use Rattle.elf32_reader.specs.Symbols.{is_symtab, symbol_count, symbol_offset, symbol, name_of}
use Rattle.elf32_reader.specs.Relas.{is_static_relocation, is_kept, rela_count, entry_offset, addend_word, rela}
use Rattle.elf32_reader.specs.Faults.{has_magic, is_current, has_table, header_fault, passes_end, is_nameless, has_symbol_shape, is_bad_symtab, is_symbolless, has_rela_shape, is_bad_rela, section_fault, elf_fault}
use Rattle.byte_words.specs.Numbers.{byte_at, number_at}

abbrev one_word : List ℕ
one_word =
    127 ∷ 69 ∷ 76 ∷ 70 ∷ 1 ∷ 1 ∷ 1 ∷ 0 ∷ 0 ∷ 0 ∷ 0 ∷ 0 ∷ 0 ∷ 0 ∷ 0 ∷ 0 ∷ 2 ∷ 0 ∷ 243 ∷ 0 ∷
    1 ∷ 0 ∷ 0 ∷ 0 ∷ 0 ∷ 0 ∷ 1 ∷ 0 ∷ 0 ∷ 0 ∷ 0 ∷ 0 ∷ 116 ∷ 0 ∷ 0 ∷ 0 ∷ 0 ∷ 0 ∷ 0 ∷ 0 ∷
    52 ∷ 0 ∷ 0 ∷ 0 ∷ 0 ∷ 0 ∷ 40 ∷ 0 ∷ 6 ∷ 0 ∷ 0 ∷ 0 ∷ 19 ∷ 0 ∷ 0 ∷ 0 ∷ 19 ∷ 0 ∷ 0 ∷ 0 ∷
    0 ∷ 0 ∷ 1 ∷ 0 ∷ 0 ∷ 0 ∷ 0 ∷ 0 ∷ 0 ∷ 0 ∷ 0 ∷ 0 ∷ 0 ∷ 0 ∷ 0 ∷ 0 ∷ 0 ∷ 0 ∷ 0 ∷ 0 ∷
    1 ∷ 0 ∷ 0 ∷ 0 ∷ 0 ∷ 0 ∷ 1 ∷ 0 ∷ 0 ∷ 0 ∷ 0 ∷ 0 ∷ 16 ∷ 0 ∷ 1 ∷ 0 ∷ 0 ∷ 115 ∷ 116 ∷ 97 ∷
    114 ∷ 116 ∷ 0 ∷ 0 ∷ 8 ∷ 0 ∷ 1 ∷ 0 ∷ 1 ∷ 1 ∷ 0 ∷ 0 ∷ 0 ∷ 0 ∷ 0 ∷ 0 ∷ 0 ∷ 0 ∷ 0 ∷ 0 ∷
    0 ∷ 0 ∷ 0 ∷ 0 ∷ 0 ∷ 0 ∷ 0 ∷ 0 ∷ 0 ∷ 0 ∷ 0 ∷ 0 ∷ 0 ∷ 0 ∷ 0 ∷ 0 ∷ 0 ∷ 0 ∷ 0 ∷ 0 ∷
    0 ∷ 0 ∷ 0 ∷ 0 ∷ 0 ∷ 0 ∷ 0 ∷ 0 ∷ 0 ∷ 0 ∷ 0 ∷ 0 ∷ 0 ∷ 0 ∷ 0 ∷ 0 ∷ 0 ∷ 0 ∷ 0 ∷ 0 ∷
    1 ∷ 0 ∷ 0 ∷ 0 ∷ 6 ∷ 0 ∷ 0 ∷ 0 ∷ 0 ∷ 0 ∷ 1 ∷ 0 ∷ 52 ∷ 0 ∷ 0 ∷ 0 ∷ 8 ∷ 0 ∷ 0 ∷ 0 ∷
    0 ∷ 0 ∷ 0 ∷ 0 ∷ 0 ∷ 0 ∷ 0 ∷ 0 ∷ 4 ∷ 0 ∷ 0 ∷ 0 ∷ 0 ∷ 0 ∷ 0 ∷ 0 ∷ 0 ∷ 0 ∷ 0 ∷ 0 ∷
    1 ∷ 0 ∷ 0 ∷ 0 ∷ 3 ∷ 0 ∷ 0 ∷ 0 ∷ 8 ∷ 0 ∷ 1 ∷ 0 ∷ 60 ∷ 0 ∷ 0 ∷ 0 ∷ 4 ∷ 0 ∷ 0 ∷ 0 ∷
    0 ∷ 0 ∷ 0 ∷ 0 ∷ 0 ∷ 0 ∷ 0 ∷ 0 ∷ 4 ∷ 0 ∷ 0 ∷ 0 ∷ 0 ∷ 0 ∷ 0 ∷ 0 ∷ 0 ∷ 0 ∷ 0 ∷ 0 ∷
    2 ∷ 0 ∷ 0 ∷ 0 ∷ 0 ∷ 0 ∷ 0 ∷ 0 ∷ 0 ∷ 0 ∷ 0 ∷ 0 ∷ 64 ∷ 0 ∷ 0 ∷ 0 ∷ 32 ∷ 0 ∷ 0 ∷ 0 ∷
    4 ∷ 0 ∷ 0 ∷ 0 ∷ 1 ∷ 0 ∷ 0 ∷ 0 ∷ 4 ∷ 0 ∷ 0 ∷ 0 ∷ 16 ∷ 0 ∷ 0 ∷ 0 ∷ 0 ∷ 0 ∷ 0 ∷ 0 ∷
    3 ∷ 0 ∷ 0 ∷ 0 ∷ 0 ∷ 0 ∷ 0 ∷ 0 ∷ 0 ∷ 0 ∷ 0 ∷ 0 ∷ 96 ∷ 0 ∷ 0 ∷ 0 ∷ 7 ∷ 0 ∷ 0 ∷ 0 ∷
    0 ∷ 0 ∷ 0 ∷ 0 ∷ 0 ∷ 0 ∷ 0 ∷ 0 ∷ 1 ∷ 0 ∷ 0 ∷ 0 ∷ 0 ∷ 0 ∷ 0 ∷ 0 ∷ 0 ∷ 0 ∷ 0 ∷ 0 ∷
    4 ∷ 0 ∷ 0 ∷ 0 ∷ 0 ∷ 0 ∷ 0 ∷ 0 ∷ 0 ∷ 0 ∷ 0 ∷ 0 ∷ 104 ∷ 0 ∷ 0 ∷ 0 ∷ 12 ∷ 0 ∷ 0 ∷ 0 ∷
    3 ∷ 0 ∷ 0 ∷ 0 ∷ 2 ∷ 0 ∷ 0 ∷ 0 ∷ 4 ∷ 0 ∷ 0 ∷ 0 ∷ 12 ∷ 0 ∷ 0 ∷ 0 ∷ []

-- its .data, its symbol and its one relocation
data_section : section one_word 2 ≡ record { name = 0; kind = 1; flags = 3; addr = 0x10008; offset = 60; size = 4; link = 0; info = 0; addralign = 4; entsize = 0 }
unfolding section table_of number_at
data_section = refl

data_content : content one_word (section one_word 2) ≡ 0 ∷ 0 ∷ 1 ∷ 0 ∷ []
unfolding content section table_of number_at
data_content = refl

start : symbol one_word 3 1 ≡ record { name = 1; value = 0x10000; size = 0; info = 16; other = 0; shndx = 1 }
unfolding symbol symbol_offset section table_of number_at byte_at
start = refl

start_name : name_of one_word 3 1 ≡ 115 ∷ 116 ∷ 97 ∷ 114 ∷ 116 ∷ []
unfolding name_of symbol symbol_offset content section table_of number_at byte_at
start_name = refl

the_rela : rela one_word 5 0 ≡ record { offset = 0x10008; symbol = 1; kind = 1; addend = pos 0 }
unfolding rela addend_word entry_offset section table_of number_at
the_rela = refl

-- it has no fault, and one byte makes each of these
no_fault : elf_fault one_word ≡ None
unfolding elf_fault section_fault header_fault has_magic is_current has_table passes_end is_bad_symtab has_symbol_shape is_nameless is_bad_rela is_symbolless has_rela_shape is_static_relocation is_kept is_symtab symbol_count symbol symbol_offset rela_count rela entry_offset addend_word is_of_kind is_allocated has_content section table_of count_of any_below number_at byte_at
no_fault = refl

other_machine : elf_fault (set one_word 18 62) ≡ Some Machine
unfolding elf_fault section_fault header_fault has_magic is_current has_table passes_end is_bad_symtab has_symbol_shape is_nameless is_bad_rela is_symbolless has_rela_shape is_static_relocation is_kept is_symtab symbol_count symbol symbol_offset rela_count rela entry_offset addend_word is_of_kind is_allocated has_content section table_of count_of any_below number_at byte_at
other_machine = refl

table_passes : elf_fault (set one_word 32 117) ≡ Some SectionTable
unfolding elf_fault section_fault header_fault has_magic is_current has_table passes_end is_bad_symtab has_symbol_shape is_nameless is_bad_rela is_symbolless has_rela_shape is_static_relocation is_kept is_symtab symbol_count symbol symbol_offset rela_count rela entry_offset addend_word is_of_kind is_allocated has_content section table_of count_of any_below number_at byte_at
table_passes = refl

text_passes : elf_fault (set one_word 179 1) ≡ Some SectionRange
unfolding elf_fault section_fault header_fault has_magic is_current has_table passes_end is_bad_symtab has_symbol_shape is_nameless is_bad_rela is_symbolless has_rela_shape is_static_relocation is_kept is_symtab symbol_count symbol symbol_offset rela_count rela entry_offset addend_word is_of_kind is_allocated has_content section table_of count_of any_below number_at byte_at
text_passes = refl

no_name : elf_fault (set one_word 80 7) ≡ Some SymbolRange
unfolding elf_fault section_fault header_fault has_magic is_current has_table passes_end is_bad_symtab has_symbol_shape is_nameless is_bad_rela is_symbolless has_rela_shape is_static_relocation is_kept is_symtab symbol_count symbol symbol_offset rela_count rela entry_offset addend_word is_of_kind is_allocated has_content section table_of count_of any_below number_at byte_at
no_name = refl

no_symbol : elf_fault (set one_word 109 2) ≡ Some RelaShape
unfolding elf_fault section_fault header_fault has_magic is_current has_table passes_end is_bad_symtab has_symbol_shape is_nameless is_bad_rela is_symbolless has_rela_shape is_static_relocation is_kept is_symtab symbol_count symbol symbol_offset rela_count rela entry_offset addend_word is_of_kind is_allocated has_content section table_of count_of any_below number_at byte_at
no_symbol = refl
