-- Names of sections (System V ABI, ELF32, "ELF Header", "Sections" and "String Table").
use Rattle.std.specs.Prelude.{ℕ, ◌==◌, Bool, not, ◌&&◌, List, [], drop, if◌then◌else◌}
use Rattle.std.specs.List.{before_first}
use Rattle.elf32_reader.specs.Numbers.{u16_at}
use Rattle.elf32_reader.specs.Sections.{section, content, is_of_kind}
use Rattle.elf32_reader.specs.Faults.{passes_end}

-- e_shstrndx: the index of the table of section names
unfoldable pub names_index : List ℕ → ℕ
names_index e = u16_at e 50

-- there is such a table: e_shstrndx isn't 0, SHN_UNDEF, and is the index of a STRTAB (3) that lies in the file
unfoldable pub has_names : List ℕ → Bool
has_names e = not (names_index e == 0) && is_of_kind e (names_index e) 3 && not (passes_end e (names_index e))

-- that table from the index of section i's name on; nothing where there is no table
unfoldable pub names_from : List ℕ → ℕ → List ℕ
names_from e i = if has_names e then drop (section e i).name (content e (section e (names_index e))) else []

-- the name of section i: the bytes up to the first zero, or to the table's end
unfoldable pub section_name : List ℕ → ℕ → List ℕ
section_name e i = before_first (λ b. b == 0) (names_from e i)
