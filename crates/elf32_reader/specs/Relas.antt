-- Relocation sections (System V ABI, ELF32, "Relocation").
use Rattle.std.specs.Prelude.{ℕ, ◌+◌, ◌*◌, ◌/◌, ◌%◌, ◌==◌, nat_lt, Bool, not, ◌&&◌, ◌||◌, List}
use Rattle.std.specs.Int.{w32, cast_signed}
use Rattle.elf32_reader.specs.declared.rela.Rela.{Rela}
use Rattle.elf32_reader.specs.declared.section.Section.{Section}
use Rattle.elf32_reader.specs.Numbers.{u32_at}
use Rattle.elf32_reader.specs.Header.{count_of}
use Rattle.elf32_reader.specs.Sections.{section, is_allocated}

-- of type RELA (4) or REL (9), and not allocated: relocations for a linker, none for the program
unfoldable pub is_static_relocation : Section → Bool
is_static_relocation s = (s.kind == 4 || s.kind == 9) && not (is_allocated s)

-- i is the index of a kept relocation section: one whose info names an allocated section
unfoldable pub is_kept : List ℕ → ℕ → Bool
is_kept e i =
    nat_lt i (count_of e) && is_static_relocation (section e i)
    && nat_lt (section e i).info (count_of e) && is_allocated (section e (section e i).info)

-- how many entries relocation section i has, of 12 bytes each
unfoldable pub rela_count : List ℕ → ℕ → ℕ
rela_count e i = (section e i).size / 12

-- the offset of entry j of section i
unfoldable pub entry_offset : List ℕ → ℕ → ℕ → ℕ
entry_offset e i j = (section e i).offset + 12 * j

-- the addend of entry j of section i as the file has it, a number below 2^32
unfoldable pub addend_word : List ℕ → ℕ → ℕ → ℕ
addend_word e i j = u32_at e (entry_offset e i j + 8)

-- entry j of section i: r_info is the symbol's index times 256, plus the relocation's type
unfoldable pub rela : List ℕ → ℕ → ℕ → Rela
rela e i j = record {
  offset = u32_at e (entry_offset e i j);
  symbol = u32_at e (entry_offset e i j + 4) / 256;
  kind = u32_at e (entry_offset e i j + 4) % 256;
  addend = cast_signed w32 (addend_word e i j);
}
