-- The programs of the demo. Program i writes its letter and a newline 30 * i times, and exits with the code i.
use Rattle.std.specs.Prelude.{ℕ, ◌+◌, ◌-◌, ◌*◌, ◌%◌, ◌^◌, List, [], ◌∷◌, codes, pos}
use Rattle.elf_maker.specs.declared.given.MakeRela.{MakeRela}
use Rattle.elf_maker.specs.Spelling.{words_text}
use Rattle.elf_maker.specs.Values.{PartValue, SymbolValue, file_bytes}

-- where .text and .data begin, and where .data has the pointer to its own begin
abbrev pub text_start : ℕ
text_start = 0x10000

abbrev pub data_start : ℕ
data_start = 0x10040

abbrev pub pointer_place : ℕ
pointer_place = 0x10044

-- the instructions from text_start on, four bytes each. s0 counts down, and a1 is the address of the letter
abbrev pub demo_code : (i : ℕ) → List ℕ
demo_code i =
    -- addi s0, x0, 30*i
    (30 * i * 2 ^ 20 + 0x413)
    -- pair: auipc a1, 0
    ∷ 0x597
    -- lw a1, 64(a1), which loads the pointer: it stands 64 bytes behind the auipc
    ∷ 0x0405a583
    -- loop: addi a0, x0, 1, the descriptor
    ∷ 0x00100513
    -- addi a2, x0, 2, the count of bytes
    ∷ 0x00200613
    -- addi a7, x0, 64, which is write
    ∷ 0x04000893
    -- ecall
    ∷ 0x00000073
    -- addi s0, s0, -1
    ∷ 0xfff40413
    -- bne s0, x0, loop, which is 20 bytes in front
    ∷ 0xfe0416e3
    -- addi a0, x0, i
    ∷ (i * 2 ^ 20 + 0x513)
    -- addi a7, x0, 93, which is exit
    ∷ 0x05d00893
    -- ecall
    ∷ 0x00000073
    ∷ []

-- the letters from a to z, and then from a again
abbrev pub demo_letter : (i : ℕ) → ℕ
demo_letter i = 97 + (i - 1) % 26

-- the letter, a newline, two zeros, and the pointer to the letter
abbrev pub demo_data : (i : ℕ) → List ℕ
demo_data i = demo_letter i ∷ 10 ∷ 0 ∷ 0 ∷ words_text (data_start ∷ [])

-- PROGBITS (1), with the flags ALLOC and EXECINSTR, and ALLOC and WRITE
abbrev pub text_part : (i : ℕ) → PartValue
text_part i = record { kind = 1; flags = 6; addr = text_start; size = 48; bytes = words_text (demo_code i) }

abbrev pub data_part : (i : ℕ) → PartValue
data_part i = record { kind = 1; flags = 3; addr = data_start; size = 8; bytes = demo_data i }

abbrev pub demo_parts : (i : ℕ) → List PartValue
demo_parts i = text_part i ∷ data_part i ∷ []

-- the letter, the auipc and the loop: global (1) symbols without a type, of the sections 2, 1 and 1
abbrev pub letter_symbol : SymbolValue
letter_symbol = record { name = codes "letter"; value = data_start; info = 16; shndx = 2 }

abbrev pub pair_symbol : SymbolValue
pair_symbol = record { name = codes "pair"; value = 0x10004; info = 16; shndx = 1 }

abbrev pub loop_symbol : SymbolValue
loop_symbol = record { name = codes "loop"; value = 0x1000c; info = 16; shndx = 1 }

abbrev pub demo_symbols : List SymbolValue
demo_symbols = letter_symbol ∷ pair_symbol ∷ loop_symbol ∷ []

-- what a linker keeps: PCREL_HI20 (23) of the auipc, whose target is the pointer, four bytes behind the letter; PCREL_LO12_I (24)
-- of the lw, which names the auipc; BRANCH (16) of the bne; and R_RISCV_32 (1) of the pointer
abbrev pub demo_relas : List MakeRela
demo_relas =
    record { part = 0; offset = 0x10004; symbol = 1; kind = 23; addend = pos 4 }
    ∷ record { part = 0; offset = 0x10008; symbol = 2; kind = 24; addend = pos 0 }
    ∷ record { part = 0; offset = 0x10020; symbol = 3; kind = 16; addend = pos 0 }
    ∷ record { part = 1; offset = pointer_place; symbol = 1; kind = 1; addend = pos 0 }
    ∷ []

-- the bytes of program i
unfoldable pub demo_file : (i : ℕ) → List ℕ
demo_file i = file_bytes (demo_parts i) demo_symbols demo_relas text_start
