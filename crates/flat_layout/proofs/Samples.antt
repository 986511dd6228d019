-- The definitions computed on small files.
use Rattle.std.proofs.Common.{◌≡◌, ℕ, ◌+◌, ◌/◌, ◌%◌, List, [], ◌∷◌, ◌++◌, None, refl}
use Rattle.byte_words.specs.Search.{any_below}
use Rattle.elf32_reader.specs.Header.{entry_of, table_of, count_of}
use Rattle.elf32_reader.specs.Sections.{section, is_allocated, is_stored, has_content, is_of_kind}
use Rattle.elf32_reader.specs.Symbols.{is_symtab, symbol_count, symbol_offset, symbol}
use Rattle.elf32_reader.specs.Relas.{is_static_relocation, is_kept, rela_count, entry_offset, rela}
use Rattle.elf32_reader.specs.Faults.{has_magic, is_current, has_table, header_fault, passes_end, is_nameless, has_symbol_shape, is_bad_symtab, is_symbolless, has_rela_shape, is_bad_rela, section_fault, elf_fault}
use Rattle.flat_layout.specs.Extremes.{least_below, greatest_below}
use Rattle.flat_layout.specs.Numbering.{lowest, highest, raised_start, distance, start_of}
use Rattle.flat_layout.specs.Layout.{stored_end, written_from, text_of, layout}
use Rattle.flat_layout.specs.Fault.{has_sections, some_ends_too_high, is_too_large, meets_below, has_overlap, has_dynamic, has_tls, is_entry_outside, layout_fault}
use Rattle.byte_words.specs.Numbers.{byte_at, number_at}

-- words of four bytes, the lowest byte first
abbrev words : List ℕ → List ℕ
words [] = []
words (w ∷ ws) = w % 256 ∷ w / 256 % 256 ∷ w / 65536 % 256 ∷ w / 16777216 ∷ words ws

-- .text at base with two instructions `nop`, .data behind it with the word base, and one R_RISCV_32 for that word
abbrev one_word : ℕ → List ℕ
one_word base = words (
    -- the file header: six section headers from 116 on
    0x464c457f ∷ 0x00010101 ∷ 0 ∷ 0 ∷ 0x00f30002 ∷ 1 ∷ base ∷ 0 ∷ 116 ∷ 0 ∷ 0x34 ∷ 0x00280000 ∷ 6
    -- from 52 on: .text, .data, two symbols, the names, one relocation
    ∷ 0x13 ∷ 0x13 ∷ base
    ∷ 0 ∷ 0 ∷ 0 ∷ 0
    ∷ 1 ∷ base ∷ 0 ∷ 0x00010010
    ∷ 0x61747300 ∷ 0x00007472
    ∷ (base + 8) ∷ 0x101 ∷ 0
    -- the section headers: NULL, .text, .data, SYMTAB, STRTAB, RELA
    ∷ 0 ∷ 0 ∷ 0 ∷ 0 ∷ 0 ∷ 0 ∷ 0 ∷ 0 ∷ 0 ∷ 0
    ∷ 0 ∷ 1 ∷ 6 ∷ base ∷ 52 ∷ 8 ∷ 0 ∷ 0 ∷ 4 ∷ 0
    ∷ 0 ∷ 1 ∷ 3 ∷ (base + 8) ∷ 60 ∷ 4 ∷ 0 ∷ 0 ∷ 4 ∷ 0
    ∷ 0 ∷ 2 ∷ 0 ∷ 0 ∷ 64 ∷ 32 ∷ 4 ∷ 1 ∷ 4 ∷ 16
    ∷ 0 ∷ 3 ∷ 0 ∷ 0 ∷ 96 ∷ 7 ∷ 0 ∷ 0 ∷ 1 ∷ 0
    ∷ 0 ∷ 4 ∷ 0 ∷ 0 ∷ 104 ∷ 12 ∷ 3 ∷ 2 ∷ 4 ∷ 12
    ∷ [])

one_word-read : elf_fault (one_word 0x10000) ≡ None
unfolding byte_at number_at any_below table_of count_of section is_allocated has_content is_of_kind is_symtab symbol_count symbol_offset symbol is_static_relocation is_kept rela_count entry_offset rela has_magic is_current has_table header_fault passes_end is_nameless has_symbol_shape is_bad_symtab is_symbolless has_rela_shape is_bad_rela section_fault elf_fault
one_word-read = refl

one_word-fault : layout_fault (one_word 0x10000) ≡ None
unfolding number_at any_below entry_of table_of count_of section is_allocated is_stored least_below greatest_below lowest highest raised_start distance has_sections some_ends_too_high is_too_large meets_below has_overlap has_dynamic has_tls is_entry_outside layout_fault
one_word-fault = refl

one_word-layout : layout (one_word 0x10000) ≡ record { v0 = 0xffc0; text = 64; data_len = 12; bss = 0; entry = 64 }
unfolding number_at entry_of table_of count_of section is_allocated is_stored least_below greatest_below lowest highest raised_start distance start_of stored_end written_from text_of layout
one_word-layout = refl

-- linked at zero V0 is -64
at_zero-fault : layout_fault (one_word 0) ≡ None
unfolding number_at any_below entry_of table_of count_of section is_allocated is_stored least_below greatest_below lowest highest raised_start distance has_sections some_ends_too_high is_too_large meets_below has_overlap has_dynamic has_tls is_entry_outside layout_fault
at_zero-fault = refl

at_zero-layout : layout (one_word 0) ≡ record { v0 = 0xffffffc0; text = 64; data_len = 12; bss = 0; entry = 64 }
unfolding number_at entry_of table_of count_of section is_allocated is_stored least_below greatest_below lowest highest raised_start distance start_of stored_end written_from text_of layout
at_zero-layout = refl

-- ---- files of section headers alone, whose contents begin with the file

-- a section header of this type, flags, address and size
abbrev header : ℕ → ℕ → ℕ → ℕ → List ℕ
header kind flags addr size = 0 ∷ kind ∷ flags ∷ addr ∷ 0 ∷ size ∷ 0 ∷ 0 ∷ 1 ∷ 0 ∷ []

-- three of them, behind the file header
abbrev three_sections : ℕ → List ℕ → List ℕ → List ℕ → List ℕ
three_sections entry first second third = words (
    0x464c457f ∷ 0x00010101 ∷ 0 ∷ 0 ∷ 0x00f30002 ∷ 1 ∷ entry ∷ 0 ∷ 52 ∷ 0 ∷ 52 ∷ 0x00280000 ∷ 3
    ∷ (first ++ (second ++ third)))

-- .bss stands between .text and .data: the lowest number of a writable section is that of .bss, 128, though its
-- bytes don't stand in the file
abbrev bss_between : List ℕ
bss_between = three_sections 0x10000 (header 1 6 0x10000 64) (header 8 3 0x10040 32) (header 1 3 0x10060 4)

bss_between-fault : layout_fault bss_between ≡ None
unfolding number_at any_below entry_of table_of count_of section is_allocated is_stored least_below greatest_below lowest highest raised_start distance has_sections some_ends_too_high is_too_large meets_below has_overlap has_dynamic has_tls is_entry_outside layout_fault
bss_between-fault = refl

bss_between-layout : layout bss_between ≡ record { v0 = 0xffc0; text = 128; data_len = 36; bss = 0; entry = 64 }
unfolding number_at entry_of table_of count_of section is_allocated is_stored least_below greatest_below lowest highest raised_start distance start_of stored_end written_from text_of layout
bss_between-layout = refl

-- the lowest section begins at 0x10014, so V0 is 0x10000, and .text has the numbers from 20 on
abbrev uneven_start : List ℕ
uneven_start = three_sections 0x10014 (header 1 6 0x10014 48) (header 1 3 0x10044 8) (header 8 3 0x1004c 4)

uneven_start-fault : layout_fault uneven_start ≡ None
unfolding number_at any_below entry_of table_of count_of section is_allocated is_stored least_below greatest_below lowest highest raised_start distance has_sections some_ends_too_high is_too_large meets_below has_overlap has_dynamic has_tls is_entry_outside layout_fault
uneven_start-fault = refl

uneven_start-layout : layout uneven_start ≡ record { v0 = 0x10000; text = 64; data_len = 12; bss = 4; entry = 20 }
unfolding number_at entry_of table_of count_of section is_allocated is_stored least_below greatest_below lowest highest raised_start distance start_of stored_end written_from text_of layout
uneven_start-layout = refl
