-- The entries of a kept relocation section, each with its symbol. System V ABI, ELF32, "Relocation".
use Rattle.std.specs.Prelude.{ℕ, List}
use Rattle.elf32_reader.specs.declared.section.Section.{Section}
use Rattle.elf32_reader.specs.Sections.{section}
use Rattle.elf32_reader.specs.Relas.{rela, addend_word}
use Rattle.psabi_relocs.specs.declared.reloc.Reloc.{Reloc}
use Rattle.psabi_relocs.specs.Row.{row_of}
use Rattle.psabi_relocs.specs.Class.{class, value_of}

-- entry j of the kept section i; its symbol table is the section's link
unfoldable pub reloc : List ℕ → ℕ → ℕ → Reloc
reloc e i j = record {
  row = row_of (rela e i j).kind;
  place = (rela e i j).offset;
  value = value_of e (section e i).link (rela e i j).symbol;
  class = class e (section e i).link (rela e i j).symbol;
  addend = addend_word e i j;
}

-- X: the section that the entries of the kept section i apply to
abbrev pub target_section : List ℕ → ℕ → Section
target_section e i = section e (section e i).info
