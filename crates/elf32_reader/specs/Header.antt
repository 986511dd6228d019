-- The file header (System V ABI, ELF32, "ELF Header").
use Rattle.std.specs.Prelude.{ℕ, List}
use Rattle.elf32_reader.specs.Numbers.{u16_at, u32_at}

-- e_entry: where the program begins
unfoldable pub entry_of : List ℕ → ℕ
entry_of e = u32_at e 24

-- e_shoff: the offset of the section header table
unfoldable pub table_of : List ℕ → ℕ
table_of e = u32_at e 32

-- e_shnum: the number of sections. An index below it is a section's, 0 among them
unfoldable pub count_of : List ℕ → ℕ
count_of e = u16_at e 48
