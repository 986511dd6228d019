-- The fields that a relocation fills, their values, and whether they hold them. RISC-V ELF psABI, "Relocations": a row
-- gives a formula of S, A and P, and the bits that take it.
use Rattle.std.specs.Prelude.{ℕ, ◌+◌, ◌-◌, ◌%◌, ◌^◌, Bool, true, false, not, ◌||◌, List, [], ◌∷◌, ◌++◌, Option, Some, None, if◌then◌else◌}
use Rattle.std.specs.List.{list_all}
use Rattle.std.specs.Option.{option_map}
use Rattle.elf32_reader.specs.declared.section.Section.{Section}
use Rattle.psabi_relocs.specs.declared.reloc.Reloc.{Reloc}
use Rattle.psabi_relocs.specs.declared.row.Row.{Row}
use Rattle.psabi_relocs.specs.declared.row.Row.TheVariants.{Pointer, Absolute, Relative, Call, GotHi20, Low}
use Rattle.psabi_relocs.specs.declared.row.Shape.{Shape}
use Rattle.psabi_relocs.specs.declared.row.Shape.TheVariants.{Word, High, LowI}
use Rattle.psabi_relocs.specs.Class.{is_moving}
use Rattle.psabi_relocs.specs.Row.{is_got_hi20, is_low}
use Rattle.psabi_relocs.specs.Reloc.{reloc, target_section}
use Rattle.psabi_relocs.specs.Bytes.{word_in}
use Rattle.psabi_relocs.specs.Pair.{high_of}
use Rattle.psabi_relocs.specs.Slot.{slot_of, is_slot_wrong}
use Rattle.psabi_relocs.specs.Shape.{has_value}

-- four bytes at a linked address, and the value that they take; `recorded` where a loader has to add the base
pub record Field : Type 0 where
  pub place : ℕ
  pub shape : Shape
  pub value : ℕ
  pub recorded : Bool

-- the two ends of a distance: S + A and P
pub record Ends : Type 0 where
  pub value : ℕ
  pub addend : ℕ
  pub place : ℕ
  pub moves : Bool

-- the entry's own
abbrev pub own_ends : Reloc → Ends
own_ends r = record { value = r.value; addend = r.addend; place = r.place; moves = is_moving r.class }

-- G and P
abbrev pub slot_ends : ℕ → ℕ → Ends
slot_ends p g = record { value = g; addend = 0; place = p; moves = true }

-- those of an entry which is no low part
unfoldable pub high_ends : List ℕ → ℕ → Reloc → Option Ends
high_ends e i r = if is_got_hi20 r.row then option_map (slot_ends r.place) (slot_of e i r.place) else Some (own_ends r)

abbrev pub pair_ends : List ℕ → ℕ → Option ℕ → Option Ends
pair_ends e i None = None
pair_ends e i (Some j) = high_ends e i (reloc e i j)

-- a low part has those of its pair
unfoldable pub ends_of : List ℕ → ℕ → Reloc → Option Ends
ends_of e i r = if is_low r.row then pair_ends e i (high_of e i r.value) else high_ends e i r

-- S + d where the symbol moves
abbrev pub moved : ℕ → Reloc → ℕ
moved d r = r.value + (if is_moving r.class then d else 0)

-- S + A at addresses that are raised by d
unfoldable pub absolute : ℕ → Reloc → ℕ
absolute d r = (moved d r + r.addend) % 2 ^ 32

-- S + A - P at addresses that are raised by d
unfoldable pub relative : ℕ → Ends → ℕ
relative d ends = (ends.value + (if ends.moves then d else 0) + ends.addend + (2 ^ 32 - (ends.place + d) % 2 ^ 32)) % 2 ^ 32

-- a field that stays as it is when the image moves
abbrev pub still : ℕ → Shape → ℕ → Field
still place shape value = record { place = place; shape = shape; value = value; recorded = false }

-- the fields at P: of AUIPC and JALR both
abbrev pub own_fields : Row → ℕ → Reloc → Ends → List Field
own_fields Pointer d r ends = record { place = r.place; shape = Word; value = absolute d r; recorded = is_moving r.class } ∷ []
own_fields (Absolute shape) d r ends = still r.place shape (absolute d r) ∷ []
own_fields (Relative shape) d r ends = still r.place shape (relative d ends) ∷ []
own_fields (Low shape) d r ends = still r.place shape (relative d ends) ∷ []
own_fields Call d r ends = still r.place High (relative d ends) ∷ still (r.place + 4) LowI (relative d ends) ∷ []
own_fields GotHi20 d r ends = still r.place High (relative d ends) ∷ []
own_fields _ d r ends = []

-- the slot, which holds S
abbrev pub slot_fields : Row → ℕ → Reloc → Ends → List Field
slot_fields GotHi20 d r ends = record { place = ends.value; shape = Word; value = moved d r % 2 ^ 32; recorded = is_moving r.class } ∷ []
slot_fields _ d r ends = []

abbrev pub fields_from : ℕ → Reloc → Option Ends → List Field
fields_from d r None = []
fields_from d r (Some ends) = own_fields r.row d r ends ++ slot_fields r.row d r ends

-- the fields of entry j of the kept section i at addresses that are raised by d. A group's entries have none: their
-- bytes stay as they were linked
unfoldable pub fields : List ℕ → ℕ → ℕ → ℕ → List Field
fields e d i j = fields_from d (reloc e i j) (ends_of e i (reloc e i j))

-- a field in the section s holds its value
unfoldable pub holds_value : List ℕ → Section → Field → Bool
holds_value e s f = has_value f.shape (word_in e s f.place) f.value

abbrev pub mismatches : List ℕ → Section → Reloc → Option Ends → Bool
mismatches e s r None = false
mismatches e s r (Some ends) = not (list_all (holds_value e s) (own_fields r.row 0 r ends)) || is_slot_wrong e r ends.value

-- a field at P or the slot doesn't hold its value
unfoldable pub is_mismatch : List ℕ → ℕ → Reloc → Bool
is_mismatch e i r = mismatches e (target_section e i) r (ends_of e i r)
