-- Which files are read: linked programs for RV32 without compressed code and without a float ABI, whose
-- tables lie in the file. `elf_fault` is the first row that holds.
use Rattle.std.specs.Prelude.{ℕ, ◌+◌, ◌*◌, ◌%◌, ◌==◌, nat_lt, nat_le, Bool, not, ◌&&◌, ◌||◌, List, [], ◌∷◌, length, Option}
use Rattle.std.specs.Option.{option_or}
use Rattle.std.specs.Int.Bits.{bit_and}
use Rattle.elf32_reader.specs.declared.fault.ElfFault.{ElfFault}
use Rattle.elf32_reader.specs.declared.fault.ElfFault.TheVariants.{Short, Magic, Class, Order, Version, FileType, Machine, Flags, SectionTable, SectionRange, SymbolRange, RelaShape}
use Rattle.elf32_reader.specs.Numbers.{u8_at, u16_at, u32_at}
use Rattle.byte_words.specs.Search.{any_below, first}
use Rattle.elf32_reader.specs.Header.{table_of, count_of}
use Rattle.elf32_reader.specs.Sections.{section, has_content, is_of_kind}
use Rattle.elf32_reader.specs.Symbols.{is_symtab, symbol_count, symbol}
use Rattle.elf32_reader.specs.Relas.{is_static_relocation, is_kept, rela_count, rela}

-- e_ident begins with 7f 45 4c 46
unfoldable pub has_magic : List ℕ → Bool
has_magic e = u8_at e 0 == 0x7f && u8_at e 1 == 0x45 && u8_at e 2 == 0x4c && u8_at e 3 == 0x46

-- EI_VERSION and e_version are 1, EV_CURRENT
unfoldable pub is_current : List ℕ → Bool
is_current e = u8_at e 6 == 1 && u32_at e 20 == 1

-- section headers of 40 bytes, from 1 to 4096 of them, all in the file
unfoldable pub has_table : List ℕ → Bool
has_table e =
    u16_at e 46 == 40 && not (count_of e == 0) && nat_le (count_of e) 4096
    && nat_le (table_of e + 40 * count_of e) (length e)

-- the header: ELFCLASS32 (1), ELFDATA2LSB (1), ET_EXEC (2), EM_RISCV (243), and of e_flags neither RVC
-- (1) nor a float ABI (6) nor RVE (8)
unfoldable pub header_fault : List ℕ → Option ElfFault
header_fault e = first (
    (nat_lt (length e) 52, Short)
    ∷ (not (has_magic e), Magic)
    ∷ (not (u8_at e 4 == 1), Class)
    ∷ (not (u8_at e 5 == 1), Order)
    ∷ (not (is_current e), Version)
    ∷ (not (u16_at e 16 == 2), FileType)
    ∷ (not (u16_at e 18 == 243), Machine)
    ∷ (not (bit_and (u32_at e 36) 15 == 0), Flags)
    ∷ (not (has_table e), SectionTable)
    ∷ [])

-- the content of section i passes the file's end. An empty one may stand at the end, and not behind it
unfoldable pub passes_end : List ℕ → ℕ → Bool
passes_end e i = has_content (section e i) && nat_lt (length e) ((section e i).offset + (section e i).size)

-- the name of symbol j isn't in the string table of table t
unfoldable pub is_nameless : List ℕ → ℕ → ℕ → Bool
is_nameless e t j = nat_le (section e (section e t).link).size (symbol e t j).name

-- section t has symbols of 16 bytes and the index of a STRTAB (3) as its link
unfoldable pub has_symbol_shape : List ℕ → ℕ → Bool
has_symbol_shape e t =
    (section e t).entsize == 16 && (section e t).size % 16 == 0 && is_of_kind e (section e t).link 3

-- section t is a symbol table, of another shape or with a symbol that has no name there
unfoldable pub is_bad_symtab : List ℕ → ℕ → Bool
is_bad_symtab e t =
    is_symtab e t && (not (has_symbol_shape e t) || any_below (is_nameless e t) (symbol_count e t))

-- the symbol of entry j of section i isn't in its symbol table
unfoldable pub is_symbolless : List ℕ → ℕ → ℕ → Bool
is_symbolless e i j = nat_le (symbol_count e (section e i).link) (rela e i j).symbol

-- section i is of type RELA (4), has entries of 12 bytes and the index of a SYMTAB as its link
unfoldable pub has_rela_shape : List ℕ → ℕ → Bool
has_rela_shape e i =
    (section e i).kind == 4 && (section e i).entsize == 12 && (section e i).size % 12 == 0
    && is_symtab e (section e i).link

-- section i has relocations for the linker of what is no section; or it is kept, of another shape or
-- with an entry that has no symbol
unfoldable pub is_bad_rela : List ℕ → ℕ → Bool
is_bad_rela e i =
    (is_static_relocation (section e i) && nat_le (count_of e) (section e i).info)
    || (is_kept e i && (not (has_rela_shape e i) || any_below (is_symbolless e i) (rela_count e i)))

-- the sections of a file whose header has no fault
unfoldable pub section_fault : List ℕ → Option ElfFault
section_fault e = first (
    (any_below (passes_end e) (count_of e), SectionRange)
    ∷ (any_below (is_bad_symtab e) (count_of e), SymbolRange)
    ∷ (any_below (is_bad_rela e) (count_of e), RelaShape)
    ∷ [])

-- the first fault of a file
unfoldable pub elf_fault : List ℕ → Option ElfFault
elf_fault e = option_or (header_fault e) (section_fault e)
