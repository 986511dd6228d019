-- Sections and symbols by name. System V ABI, ELF32, "Sections" and "Symbol Table"; the stand-ins are those of `objdump -t`, or this
-- project's own.
use Rattle.std.specs.Prelude.{ℕ, ◌%◌, ◌==◌, nat_lt, Bool, not, ◌&&◌, List, ◌++◌, codes, decimal, if◌then◌else◌}
use Rattle.elf32_reader.specs.declared.symbol.Symbol.{Symbol}
use Rattle.elf32_reader.specs.Header.{count_of}
use Rattle.elf32_reader.specs.Names.{section_name}
use Rattle.elf32_reader.specs.Symbols.{symbol, name_of}
use Rattle.fault_texts.specs.Names.{name_or}

-- section i by its name, or `#` and its index
unfoldable pub section_text : List ℕ → ℕ → List ℕ
section_text e i = name_or 0x23 i (section_name e i)

-- the index is that of a section, and not 0, SHN_UNDEF
abbrev pub names_section : List ℕ → ℕ → Bool
names_section e i = not (i == 0) && nat_lt i (count_of e)

-- the symbol of a section, STT_SECTION (3)
abbrev pub is_of_section : List ℕ → Symbol → Bool
is_of_section e s = s.info % 16 == 3 && names_section e s.shndx

-- symbol j of table t: `-` for the one of index 0, its section for a section's own, its name, or `@` and its index
unfoldable pub symbol_text : List ℕ → ℕ → ℕ → List ℕ
symbol_text e t j =
    if j == 0 then codes "-"
    else if is_of_section e (symbol e t j) then section_text e (symbol e t j).shndx
    else name_or 0x40 j (name_of e t j)

-- an index that is no section's: SHN_ABS (0xfff1), SHN_COMMON (0xfff2), or another one
abbrev pub reserved_text : ℕ → List ℕ
reserved_text index = if index == 0xfff1 then codes "*ABS*" else if index == 0xfff2 then codes "*COM*" else codes "#" ++ decimal index

abbrev pub index_text : List ℕ → ℕ → List ℕ
index_text e index =
    if index == 0 then codes "*UND*"
    else if nat_lt index (count_of e) then section_text e index
    else reserved_text index

-- where symbol j of table t stands
unfoldable pub home_text : List ℕ → ℕ → ℕ → List ℕ
home_text e t j = if j == 0 then codes "-" else index_text e (symbol e t j).shndx
