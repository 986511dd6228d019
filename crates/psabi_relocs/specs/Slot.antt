-- The slots of the global offset table. RISC-V ELF psABI, "Relocations": G is the address of the symbol's slot, and GOT_HI20
-- has G - P. That G is found by the first low part is this project's own rule, since a linked file doesn't say it.
use Rattle.std.specs.Prelude.{ℕ, ◌+◌, ◌%◌, ◌^◌, Bool, false, not, ◌&&◌, ◌||◌, ◌==◌, List, Option, Some, None, if◌then◌else◌}
use Rattle.std.specs.Option.{option_map, is_none}
use Rattle.elf32_reader.specs.declared.section.Section.{Section}
use Rattle.elf32_reader.specs.Header.{count_of}
use Rattle.elf32_reader.specs.Sections.{section}
use Rattle.flat_layout.specs.Numbering.{has_bytes}
use Rattle.rv32im_table.specs.Immediate.{imm_i, imm_s, imm_u}
use Rattle.psabi_relocs.specs.declared.reloc.Reloc.{Reloc}
use Rattle.psabi_relocs.specs.declared.row.Row.{Row}
use Rattle.psabi_relocs.specs.declared.row.Row.TheVariants.{Low}
use Rattle.psabi_relocs.specs.declared.row.Shape.TheVariants.{LowS}
use Rattle.psabi_relocs.specs.Search.{first_below}
use Rattle.psabi_relocs.specs.Row.{is_got_hi20}
use Rattle.psabi_relocs.specs.Reloc.{reloc, target_section}
use Rattle.psabi_relocs.specs.Bytes.{holds, word_in}
use Rattle.psabi_relocs.specs.Pair.{low_of}

-- the immediate of a low part in its word
abbrev pub low_immediate : Row → ℕ → ℕ
low_immediate (Low LowS) w = imm_s w
low_immediate _ w = imm_i w

-- what the two instructions at p and at the low part's place add up to
unfoldable pub slot_by : List ℕ → Section → ℕ → Reloc → ℕ
slot_by e s p low = (p + imm_u (word_in e s p) + low_immediate low.row (word_in e s low.place)) % 2 ^ 32

-- G: the address of the slot of a GOT_HI20 at p, if the instruction at p and a low part that names it are there
unfoldable pub slot_of : List ℕ → ℕ → ℕ → Option ℕ
slot_of e i p =
    if holds (target_section e i) p 4
    then option_map (λ j. slot_by e (target_section e i) p (reloc e i j)) (low_of e i p)
    else None

-- the slot of an entry: other entries than GOT_HI20 have none
abbrev pub own_slot : List ℕ → ℕ → Reloc → Option ℕ
own_slot e i r = if is_got_hi20 r.row then slot_of e i r.place else None

-- a stored section of the image that holds four bytes at an address
unfoldable pub holds_slot : ℕ → Section → Bool
holds_slot a s = has_bytes s && holds s a 4

-- the section of the slot at an address
unfoldable pub slot_section : List ℕ → ℕ → Option ℕ
slot_section e a = first_below (λ i. holds_slot a (section e i)) (count_of e)

-- no stored section of the image holds the slot's four bytes
abbrev pub is_slot_outside : List ℕ → Option ℕ → Bool
is_slot_outside e None = false
is_slot_outside e (Some g) = is_none (slot_section e g)

abbrev pub word_of_slot : List ℕ → ℕ → Option ℕ → ℕ
word_of_slot e g None = 0
word_of_slot e g (Some k) = word_in e (section e k) g

-- the linked word of the slot at g
unfoldable pub slot_word : List ℕ → ℕ → ℕ
slot_word e g = word_of_slot e g (slot_section e g)

-- a GOT_HI20 has an addend, or its slot at g doesn't hold S
unfoldable pub is_slot_wrong : List ℕ → Reloc → ℕ → Bool
is_slot_wrong e r g = is_got_hi20 r.row && (not (r.addend == 0) || not (slot_word e g == r.value))
