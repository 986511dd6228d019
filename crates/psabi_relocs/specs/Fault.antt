-- The first reason why a kept relocation isn't accepted, in the order of ten rows. Each field already holds its value at
-- the linked addresses. RISC-V ELF psABI, "Relocations"; which symbols a row takes is this project's own rule: what a
-- flat file can't record must not change when the image moves.
use Rattle.std.specs.Prelude.{ℕ, Bool, true, false, not, ◌&&◌, ◌||◌, ◌==◌, List, [], ◌∷◌, Option, None, if◌then◌else◌}
use Rattle.std.specs.Option.{is_none}
use Rattle.byte_words.specs.Search.{first}
use Rattle.elf32_reader.specs.Relas.{rela_count}
use Rattle.psabi_relocs.specs.declared.class.Class.TheVariants as classes
use Rattle.psabi_relocs.specs.declared.class.Class.{Class}
use Rattle.psabi_relocs.specs.declared.fault.RelocFault.{RelocFault}
use Rattle.psabi_relocs.specs.declared.fault.RelocFault.TheVariants.{UnknownType, BadSymbol, Undefined, PlaceOutside, AbsoluteCode, WeakPcrel, AbsPcrel, LoneLow, Unpaired, FieldMismatch}
use Rattle.psabi_relocs.specs.declared.reloc.Reloc.{Reloc}
use Rattle.psabi_relocs.specs.declared.row.Row.{Row}
use Rattle.psabi_relocs.specs.declared.row.Row.TheVariants.{Group}
use Rattle.psabi_relocs.specs.Class.{is_moving, is_still}
use Rattle.psabi_relocs.specs.Row.{field_len, is_mark, is_unknown, is_got_hi20, is_absolute, is_relative, is_low}
use Rattle.psabi_relocs.specs.Reloc.{reloc, target_section}
use Rattle.psabi_relocs.specs.Bytes.{holds}
use Rattle.psabi_relocs.specs.Pair.{high_of, low_of}
use Rattle.psabi_relocs.specs.Slot.{slot_of, is_slot_outside}
use Rattle.psabi_relocs.specs.Group.{sum_below, is_balanced}
use Rattle.psabi_relocs.specs.Field.{is_mismatch}

abbrev pub is_bad : Class → Bool
is_bad classes.Bad = true
is_bad _ = false

abbrev pub is_undefined : Class → Bool
is_undefined classes.Undefined = true
is_undefined _ = false

abbrev pub is_weak : Class → Bool
is_weak classes.Weak = true
is_weak _ = false

abbrev pub is_fixed : Class → Bool
is_fixed classes.Fixed = true
is_fixed _ = false

-- the field isn't in the section that the entries apply to, or the slot of a GOT_HI20 is in none
unfoldable pub is_place_outside : List ℕ → ℕ → Reloc → Bool
is_place_outside e i r =
    not (holds (target_section e i) r.place (field_len r.row)) || (is_got_hi20 r.row && is_slot_outside e (slot_of e i r.place))

-- a low part whose symbol stands still, that has an addend, or whose symbol isn't the place of a high part
unfoldable pub is_lone_low : List ℕ → ℕ → Reloc → Bool
is_lone_low e i r = is_low r.row && (is_still r.class || not (r.addend == 0) || is_none (high_of e i r.value))

-- the sum of the group of this row at the place q doesn't end at 0
abbrev pub is_unbalanced : Row → List ℕ → ℕ → ℕ → Bool
is_unbalanced (Group width step) e i q = not (is_balanced (sum_below e i q width (rela_count e i)))
is_unbalanced _ e i q = false

-- a GOT_HI20 that no low part names, or an entry of an unbalanced group
unfoldable pub is_unpaired : List ℕ → ℕ → Reloc → Bool
is_unpaired e i r =
    (is_got_hi20 r.row && is_none (low_of e i r.place)) || is_unbalanced r.row e i r.place

-- the first fault of an entry of the kept section i
unfoldable pub first_fault : List ℕ → ℕ → Reloc → Option RelocFault
first_fault e i r = first (
    (is_unknown r.row, UnknownType)
    ∷ (is_bad r.class, BadSymbol)
    ∷ (is_undefined r.class, Undefined)
    ∷ (is_place_outside e i r, PlaceOutside)
    ∷ (is_absolute r.row && is_moving r.class, AbsoluteCode)
    ∷ (is_relative r.row && is_weak r.class, WeakPcrel)
    ∷ (is_relative r.row && is_fixed r.class, AbsPcrel)
    ∷ (is_lone_low e i r, LoneLow)
    ∷ (is_unpaired e i r, Unpaired)
    ∷ (is_mismatch e i r, FieldMismatch)
    ∷ [])

-- the fault of entry j of the kept section i; a mark has none
unfoldable pub reloc_fault : List ℕ → ℕ → ℕ → Option RelocFault
reloc_fault e i j = if is_mark (reloc e i j).row then None else first_fault e i (reloc e i j)
