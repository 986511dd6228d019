-- The linked bytes of a section by address. System V ABI, ELF32, "Sections" (sh_addr, sh_offset).
use Rattle.std.specs.Prelude.{ℕ, ◌+◌, ◌-◌, Bool, ◌&&◌, nat_le, List}
use Rattle.elf32_reader.specs.declared.section.Section.{Section}
use Rattle.elf32_reader.specs.Numbers.{u32_at}
use Rattle.elf32_reader.specs.Sections.{is_stored}
use Rattle.flat_layout.specs.Numbering.{end_of}

-- n bytes from an address on stand in the section's content
abbrev pub holds : Section → ℕ → ℕ → Bool
holds s a n = is_stored s && nat_le s.addr a && nat_le (a + n) (end_of s)

-- the linked word at an address of the section
abbrev pub word_in : List ℕ → Section → ℕ → ℕ
word_in e s a = u32_at e (s.offset + (a - s.addr))
