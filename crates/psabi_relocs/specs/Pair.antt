-- How the entries of one kept section belong together: a low part with its high part. RISC-V ELF psABI, "PC-Relative Symbol
-- Addresses": the symbol of a low part is the place of its high part.
use Rattle.std.specs.Prelude.{ℕ, Bool, ◌&&◌, ◌==◌, List, Option, None, if◌then◌else◌}
use Rattle.elf32_reader.specs.declared.section.Section.{Section}
use Rattle.elf32_reader.specs.Relas.{rela_count}
use Rattle.psabi_relocs.specs.declared.reloc.Reloc.{Reloc}
use Rattle.psabi_relocs.specs.Search.{first_below}
use Rattle.psabi_relocs.specs.Class.{is_moving}
use Rattle.psabi_relocs.specs.Row.{is_high, is_low}
use Rattle.psabi_relocs.specs.Reloc.{reloc, target_section}
use Rattle.psabi_relocs.specs.Bytes.{holds}

-- a high part at the address q
unfoldable pub is_high_at : ℕ → Reloc → Bool
is_high_at q r = is_high r.row && r.place == q

-- the entry that is the pair of the low parts whose symbol has the value q
unfoldable pub high_of : List ℕ → ℕ → ℕ → Option ℕ
high_of e i q = first_below (λ j. is_high_at q (reloc e i j)) (rela_count e i)

-- the pair of an entry: other entries than low parts have none
abbrev pub own_high : List ℕ → ℕ → Reloc → Option ℕ
own_high e i r = if is_low r.row then high_of e i r.value else None

-- a low part in the section s that names the address q
unfoldable pub names : Section → ℕ → Reloc → Bool
names s q r = is_low r.row && r.addend == 0 && is_moving r.class && r.value == q && holds s r.place 4

-- the first low part that names the address q
unfoldable pub low_of : List ℕ → ℕ → ℕ → Option ℕ
low_of e i q = first_below (λ j. names (target_section e i) q (reloc e i j)) (rela_count e i)
