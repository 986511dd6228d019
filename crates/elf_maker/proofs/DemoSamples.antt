-- The first program of the demo and the last.
use Rattle.std.proofs.Common.{◌≡◌, ◌+◌, ◌*◌, [], ◌∷◌, ◌++◌, length, codes, refl}
use Rattle.elf_maker.specs.Demo.{demo_code, demo_letter, demo_data, demo_file}
use Rattle.elf_maker.specs.Values.{file_bytes, items_of, symbol_bytes}
use Rattle.elf_maker.specs.Spelling.{words_text, halves_text, header_of, table_header, header_text, section_text, file_text, rela_text, relas_text}

first_letter : demo_letter 1 ≡ 97
first_letter = refl

last_letter : demo_letter 64 ≡ 108
last_letter = refl

-- of the last program the bytes of the code, and of what .data holds
last_code : words_text (demo_code 64) ≡
    0x13 ∷ 0x04 ∷ 0x00 ∷ 0x78 ∷ 0x97 ∷ 0x05 ∷ 0x00 ∷ 0x00 ∷ 0x83 ∷ 0xa5 ∷ 0x05 ∷ 0x04 ∷ 0x13 ∷ 0x05 ∷ 0x10 ∷ 0x00 ∷
    0x13 ∷ 0x06 ∷ 0x20 ∷ 0x00 ∷ 0x93 ∷ 0x08 ∷ 0x00 ∷ 0x04 ∷ 0x73 ∷ 0x00 ∷ 0x00 ∷ 0x00 ∷ 0x13 ∷ 0x04 ∷ 0xf4 ∷ 0xff ∷
    0xe3 ∷ 0x16 ∷ 0x04 ∷ 0xfe ∷ 0x13 ∷ 0x05 ∷ 0x00 ∷ 0x04 ∷ 0x93 ∷ 0x08 ∷ 0xd0 ∷ 0x05 ∷ 0x73 ∷ 0x00 ∷ 0x00 ∷ 0x00 ∷ []
unfolding words_text
last_code = refl

last_data : demo_data 64 ≡ codes "l\n" ++ (0 ∷ 0 ∷ 0x40 ∷ 0x00 ∷ 0x01 ∷ 0x00 ∷ [])
unfolding words_text
last_data = refl

-- the first file: the header, two sections, three symbols and their names, four relocations, and seven section headers
first_length : length (demo_file 1) ≡ 52 + 48 + 8 + 64 + 18 + 36 + 12 + 7 * 40
unfolding demo_file file_bytes items_of symbol_bytes file_text section_text header_text header_of table_header words_text halves_text rela_text relas_text
first_length = refl
