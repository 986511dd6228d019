-- The image of the worked example with one word, at two bases.
use Rattle.std.proofs.Common.{◌≡◌, ℕ, ◌+◌, ◌-◌, false, true, List, [], ◌∷◌, ◌++◌, map, Option, Some, None, refl}
use Rattle.std.specs.Prelude.{replicate}
use Rattle.byte_words.specs.Numbers.{byte_at, number_at}
use Rattle.byte_words.specs.Patches.{spans, patched, from_base, little_word}
use Rattle.byte_words.specs.Search.{any_below}
use Rattle.elf32_reader.specs.Header.{table_of, count_of}
use Rattle.elf32_reader.specs.Faults.{has_table}
use Rattle.elf32_reader.specs.Relas.{is_static_relocation, is_kept, rela_count, entry_offset, addend_word, rela}
use Rattle.elf32_reader.specs.Sections.{section, is_allocated, is_stored, has_content, content, is_of_kind}
use Rattle.elf32_reader.specs.Symbols.{is_symtab, symbol_count, symbol_offset, symbol, name_of}
use Rattle.flat_layout.specs.Extremes.{least_below, greatest_below}
use Rattle.flat_layout.specs.Layout.{off, stored_end, written_from, text_of, layout}
use Rattle.flat_layout.specs.Numbering.{lowest, highest, raised_start, distance, start_of}
use Rattle.rv32im_table.specs.Immediate.{put_u}
use Rattle.psabi_relocs.specs.declared.row.Shape.TheVariants.{Word, High}
use Rattle.psabi_relocs.specs.Class.{class, value_of}
use Rattle.psabi_relocs.specs.Row.{row_of}
use Rattle.psabi_relocs.specs.Reloc.{reloc}
use Rattle.psabi_relocs.specs.Field.{Field, high_ends, ends_of, absolute, fields}
use Rattle.elf2flt_tool.specs.Relocs.{fields_in, fields_of}
use Rattle.elf2flt_tool.specs.Image.{section_patch, bare, word_of, written, word_patch, relocated, image}
use Rattle.elf2flt_tool.proofs.Samples.{one_word}

-- ---- pictures

-- the lowest byte comes first
word-order : word_of (λ n. n + 1) 4 ≡ 0x08070605
unfolding word_of
word-order = refl

-- linked at 0x10000, the example has its code at number 64, and at number 72 the word with the address of its first instruction
words-bare : map (word_of (bare one_word)) (0 ∷ 60 ∷ 64 ∷ 68 ∷ 72 ∷ []) ≡ 0 ∷ 0 ∷ 0x513 ∷ 0x05d00893 ∷ 0x10000 ∷ []
unfolding byte_at number_at spans patched little_word table_of count_of section is_allocated is_stored has_content content is_of_kind least_below greatest_below off stored_end written_from text_of layout lowest highest raised_start distance start_of section_patch bare word_of
words-bare = refl

-- ---- fields

-- of the word, when all addresses are raised by 0x100
fields-raised : fields_of one_word 0x100 ≡ record { place = 0x10008; shape = Word; value = 0x10100; recorded = true } ∷ []
unfolding byte_at number_at spans patched from_base little_word any_below table_of count_of has_table is_static_relocation is_kept rela_count entry_offset addend_word rela section is_allocated is_stored has_content content is_of_kind is_symtab symbol_count symbol_offset symbol name_of least_below greatest_below off stored_end written_from text_of layout lowest highest raised_start distance start_of class value_of row_of reloc high_ends ends_of absolute fields fields_in fields_of
fields-raised = refl

-- the high part of a value in the first instruction, which stays as it is when the image moves; and a pointer in the word
abbrev high : Field
high = record { place = 0x10000; shape = High; value = 0x1234_5800; recorded = false }

abbrev pointer : (place value : ℕ) → Field
pointer place value = record { place = place; shape = Word; value = value; recorded = true }

-- the lowest twelve bits stay, and so do all bytes around it
written-high : map (word_of (written (layout one_word) high (bare one_word))) (60 ∷ 64 ∷ 68 ∷ 72 ∷ []) ≡ 0 ∷ 0x1234_6513 ∷ 0x05d00893 ∷ 0x10000 ∷ []
unfolding byte_at number_at spans patched little_word table_of count_of section is_allocated is_stored has_content content is_of_kind least_below greatest_below off stored_end written_from text_of layout lowest highest raised_start distance start_of put_u section_patch bare word_of written
written-high = refl

-- both, in whatever order
relocated-both :
    map (λ (fs : List Field). map (word_of (relocated (layout one_word) fs (bare one_word))) (60 ∷ 64 ∷ 68 ∷ 72 ∷ 76 ∷ []))
    ((high ∷ pointer 0x10008 0x80 ∷ []) ∷ (pointer 0x10008 0x80 ∷ high ∷ []) ∷ [])
    ≡ replicate 2 (0 ∷ 0x1234_6513 ∷ 0x05d00893 ∷ 0x80 ∷ 0 ∷ [])
unfolding byte_at number_at spans patched little_word table_of count_of section is_allocated is_stored has_content content is_of_kind least_below greatest_below off stored_end written_from text_of layout lowest highest raised_start distance start_of put_u section_patch bare word_of written word_patch relocated
relocated-both = refl

-- at one place a pointer comes last
relocated-over : word_of (relocated (layout one_word) (pointer 0x10000 0x90 ∷ high ∷ []) (bare one_word)) 64 ≡ 0x90
unfolding byte_at number_at spans patched little_word table_of count_of section is_allocated is_stored has_content content is_of_kind least_below greatest_below off stored_end written_from text_of layout lowest highest raised_start distance start_of put_u section_patch bare word_of written word_patch relocated
relocated-over = refl

-- ---- the whole image, and the bytes before and behind it: the word has the address of the first instruction, 64 behind the base

abbrev seen : (base : ℕ) → List (Option ℕ)
seen base = image one_word base (base - 1) ∷ map (λ n. image one_word base (base + n)) (0 ∷ 63 ∷ 64 ∷ 68 ∷ 72 ∷ 73 ∷ 74 ∷ 75 ∷ 76 ∷ [])

image-first : seen 0x8000_0040 ≡ None ∷ map (λ (b : ℕ). Some b) (0 ∷ 0 ∷ 0x13 ∷ 0x93 ∷ 0x80 ∷ 0 ∷ 0 ∷ 0x80 ∷ []) ++ None ∷ []
unfolding byte_at number_at spans patched from_base little_word any_below table_of count_of has_table is_static_relocation is_kept rela_count entry_offset addend_word rela section is_allocated is_stored has_content content is_of_kind is_symtab symbol_count symbol_offset symbol name_of least_below greatest_below off stored_end written_from text_of layout lowest highest raised_start distance start_of class value_of row_of reloc high_ends ends_of absolute fields fields_in fields_of section_patch bare word_patch relocated image
image-first = refl

image-second : seen 0x8001_2340 ≡ None ∷ map (λ (b : ℕ). Some b) (0 ∷ 0 ∷ 0x13 ∷ 0x93 ∷ 0x80 ∷ 0x23 ∷ 0x01 ∷ 0x80 ∷ []) ++ None ∷ []
unfolding byte_at number_at spans patched from_base little_word any_below table_of count_of has_table is_static_relocation is_kept rela_count entry_offset addend_word rela section is_allocated is_stored has_content content is_of_kind is_symtab symbol_count symbol_offset symbol name_of least_below greatest_below off stored_end written_from text_of layout lowest highest raised_start distance start_of class value_of row_of reloc high_ends ends_of absolute fields fields_in fields_of section_patch bare word_patch relocated image
image-second = refl
