-- Symbol tables and their names (System V ABI, ELF32, "Symbol Table" and "String Table").
use Rattle.std.specs.Prelude.{ℕ, ◌+◌, ◌*◌, ◌/◌, ◌==◌, Bool, List, drop}
use Rattle.std.specs.List.{before_first}
use Rattle.elf32_reader.specs.declared.symbol.Symbol.{Symbol}
use Rattle.elf32_reader.specs.Numbers.{u8_at, u16_at, u32_at}
use Rattle.elf32_reader.specs.Sections.{section, content, is_of_kind}

-- t is the index of a symbol table, SYMTAB (2)
unfoldable pub is_symtab : List ℕ → ℕ → Bool
is_symtab e t = is_of_kind e t 2

-- how many symbols table t has, of 16 bytes each
unfoldable pub symbol_count : List ℕ → ℕ → ℕ
symbol_count e t = (section e t).size / 16

-- the symbol at an offset
abbrev pub symbol_at : List ℕ → ℕ → Symbol
symbol_at e at = record {
  name = u32_at e at;
  value = u32_at e (at + 4);
  size = u32_at e (at + 8);
  info = u8_at e (at + 12);
  other = u8_at e (at + 13);
  shndx = u16_at e (at + 14);
}

-- the offset of symbol j of table t
unfoldable pub symbol_offset : List ℕ → ℕ → ℕ → ℕ
symbol_offset e t j = (section e t).offset + 16 * j

-- symbol j of table t
unfoldable pub symbol : List ℕ → ℕ → ℕ → Symbol
symbol e t j = symbol_at e (symbol_offset e t j)

-- the name of symbol j of table t: the bytes from its index in the table's string table to the first
-- zero, or to that section's end
unfoldable pub name_of : List ℕ → ℕ → ℕ → List ℕ
name_of e t j = before_first (λ b. b == 0) (drop (symbol e t j).name (content e (section e (section e t).link)))
