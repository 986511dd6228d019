-- What relocations ask of a loader, in two small ELF files.
use Rattle.std.proofs.Common.{◌≡◌, ℕ, true, false, List, [], ◌∷◌, ◌++◌, take, drop, Some, refl}
use Rattle.std.specs.Prelude.{replicate, slice_set}
use Rattle.byte_words.specs.Numbers.{byte_at, number_at}
use Rattle.elf32_reader.specs.Header.{table_of, count_of}
use Rattle.elf32_reader.specs.Relas.{rela_count, entry_offset, addend_word, rela}
use Rattle.elf32_reader.specs.Sections.{section, is_allocated, is_stored}
use Rattle.elf32_reader.specs.Symbols.{symbol_offset, symbol, name_of}
use Rattle.rv32im_table.specs.Immediate.{imm_i, imm_u}
use Rattle.psabi_relocs.specs.declared.effect.Effect.TheVariants.{Still, Word, Slot}
use Rattle.psabi_relocs.specs.Class.{class, value_of}
use Rattle.psabi_relocs.specs.Row.{row_of}
use Rattle.psabi_relocs.specs.Search.{first_below}
use Rattle.psabi_relocs.specs.Reloc.{reloc}
use Rattle.psabi_relocs.specs.Pair.{names, low_of}
use Rattle.psabi_relocs.specs.Slot.{slot_by, slot_of}
use Rattle.psabi_relocs.specs.Field.{absolute}
use Rattle.psabi_relocs.specs.Effect.{effect, spans}
use Rattle.elf2flt_tool.proofs.Samples.{one_word}

-- ---- the worked example: the word at 0x10008 points to the first instruction

word-moves : effect one_word 5 0 ≡ Word 0x10008 0x10000
unfolding byte_at number_at table_of count_of entry_offset addend_word rela section is_allocated symbol_offset symbol name_of class value_of row_of reloc absolute effect
word-moves = refl

word-span : spans one_word 5 0 ≡ record { place = 0x10008; len = 4; recorded = true } ∷ []
unfolding byte_at number_at table_of count_of entry_offset addend_word rela section is_allocated symbol_offset symbol name_of class value_of row_of reloc spans
word-span = refl

-- with an addend of 4 to the second one
abbrev added : List ℕ
added = slice_set one_word 111 4

word-added : effect added 5 0 ≡ Word 0x10008 0x10004
unfolding byte_at number_at table_of count_of entry_offset addend_word rela section is_allocated symbol_offset symbol name_of class value_of row_of reloc absolute effect
word-added = refl

-- of no symbol, and so nothing moves
abbrev fixed : List ℕ
fixed = slice_set one_word 108 0

word-still : effect fixed 5 0 ≡ Still
unfolding byte_at number_at table_of count_of entry_offset addend_word rela section is_allocated symbol_offset symbol name_of class value_of row_of reloc absolute effect
word-still = refl

-- nor where an instruction has the value relative to its own place (PCREL_HI20, 23)
abbrev relative : List ℕ
relative = slice_set one_word 107 23

relative-still : effect relative 5 0 ≡ Still
unfolding byte_at number_at table_of count_of entry_offset addend_word rela section is_allocated symbol_offset symbol name_of class value_of row_of reloc absolute effect
relative-still = refl

-- ---- auipc a0,0 and lw a0,8(a0), with GOT_HI20 (20) and PCREL_LO12_I (24): the word at 0x10008 is a slot. The entries stand behind all else

abbrev entries : List ℕ
entries = (0 ∷ 0 ∷ 1 ∷ 0 ∷ 20 ∷ 1 ∷ replicate 6 0) ++ (4 ∷ 0 ∷ 1 ∷ 0 ∷ 24 ∷ 1 ∷ replicate 6 0)

-- so many bytes of them are counted
abbrev with_slot : (counted : ℕ) → List ℕ
with_slot counted =
    take 52 one_word ++ (0x17 ∷ 5 ∷ 0 ∷ 0 ∷ 3 ∷ 0x25 ∷ 0x85 ∷ 0 ∷ []) ++ take 324 (drop 60 one_word)
    ++ (0xc0 ∷ 1 ∷ 0 ∷ 0 ∷ counted ∷ 0 ∷ 0 ∷ 0 ∷ []) ++ take 4 (drop 392 one_word) ++ (1 ∷ 0 ∷ 0 ∷ 0 ∷ []) ++ drop 400 one_word ++ entries

slot-is : slot_of (with_slot 24) 5 0x10000 ≡ Some 0x10008
unfolding byte_at number_at table_of count_of rela_count entry_offset addend_word rela section is_allocated is_stored symbol_offset symbol name_of imm_i imm_u class value_of row_of first_below reloc names low_of slot_by slot_of
slot-is = refl

slot-moves : (effect (with_slot 24) 5 0 ∷ effect (with_slot 24) 5 1 ∷ []) ≡ Slot 0x10008 0x10000 ∷ Still ∷ []
unfolding byte_at number_at table_of count_of rela_count entry_offset addend_word rela section is_allocated is_stored symbol_offset symbol name_of imm_i imm_u class value_of row_of first_below reloc names low_of slot_by slot_of absolute effect
slot-moves = refl

slot-spans : spans (with_slot 24) 5 0 ≡ record { place = 0x10000; len = 4; recorded = false } ∷ record { place = 0x10008; len = 4; recorded = true } ∷ []
unfolding byte_at number_at table_of count_of rela_count entry_offset addend_word rela section is_allocated is_stored symbol_offset symbol name_of imm_i imm_u class value_of row_of first_below reloc names low_of slot_by slot_of spans
slot-spans = refl

-- without the low part nothing says where the slot is
slot-none : effect (with_slot 12) 5 0 ≡ Still
unfolding byte_at number_at table_of count_of rela_count entry_offset addend_word rela section is_allocated is_stored symbol_offset symbol name_of imm_i imm_u class value_of row_of first_below reloc names low_of slot_by slot_of absolute effect
slot-none = refl
