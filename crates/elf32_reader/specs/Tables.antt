-- What the rows of the fault table that don't hold say of a file.
use Rattle.std.specs.Prelude.{◌≡◌, ℕ, ◌+◌, ◌*◌, ◌<◌, ◌≤◌, true, List, length}
use Rattle.elf32_reader.specs.Header.{table_of, count_of}
use Rattle.elf32_reader.specs.Sections.{section, has_content}
use Rattle.elf32_reader.specs.Symbols.{is_symtab, symbol_count, symbol}
use Rattle.elf32_reader.specs.Relas.{is_kept, rela_count, rela}
use Rattle.elf32_reader.specs.Faults.{has_symbol_shape, has_rela_shape}
use Rattle.elf32_reader.specs.Accepted.{IsAccepted}

-- the file header and the section header table lie in the file
pub record HasTable (e : List ℕ) : Type 0 where
  pub long : 52 ≤ length e
  pub some : 0 < count_of e
  pub few : count_of e ≤ 4096
  pub whole : table_of e + 40 * count_of e ≤ length e

-- and so does the content of each section
pub record HasRanges (e : List ℕ) : Type 0 where
  pub table : HasTable e
  pub fits : (i : ℕ) → i < count_of e → has_content (section e i) ≡ true → (section e i).offset + (section e i).size ≤ length e

-- a symbol table has its shape, and a name for each symbol
pub record IsSymtab (e : List ℕ) (t : ℕ) : Type 0 where
  pub shape : has_symbol_shape e t ≡ true
  pub named : (j : ℕ) → j < symbol_count e t → (symbol e t j).name < (section e (section e t).link).size

-- a kept relocation section has its shape, and a symbol for each entry
pub record IsRelas (e : List ℕ) (i : ℕ) : Type 0 where
  pub shape : has_rela_shape e i ≡ true
  pub symbols : (j : ℕ) → j < rela_count e i → (rela e i j).symbol < symbol_count e (section e i).link

-- a file that was read
pub record IsElf (e : List ℕ) : Type 0 where
  pub accepted : IsAccepted e
  pub ranges : HasRanges e
  pub symtabs : (t : ℕ) → is_symtab e t ≡ true → IsSymtab e t
  pub relas : (i : ℕ) → is_kept e i ≡ true → IsRelas e i
