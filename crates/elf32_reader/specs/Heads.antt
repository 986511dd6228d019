-- The rows of the fault table that speak of sections, of each section by itself.
use Rattle.std.specs.Prelude.{◌≡◌, ℕ, ◌<◌, ◌==◌, Bool, false, List, if◌then◌else◌}
use Rattle.elf32_reader.specs.Header.{count_of}
use Rattle.byte_words.specs.Search.{any_below}
use Rattle.elf32_reader.specs.Faults.{passes_end, is_bad_symtab, is_bad_rela}

-- row 10, SectionRange, row 11, SymbolRange, or row 12, RelaShape, holds of section i
unfoldable pub row_holds : ℕ → List ℕ → ℕ → Bool
row_holds row e i = if row == 10 then passes_end e i else if row == 11 then is_bad_symtab e i else is_bad_rela e i

-- what rows 11 and 12 look at lies in the file: row 10 holds of no section
abbrev pub IsInFile : ℕ → List ℕ → Type 0
IsInFile row e = 10 < row → any_below (passes_end e) (count_of e) ≡ false
