-- What an accepted relocation asks of a loader, and which linked bytes are its own. What a flat file records of it is this
-- project's own rule (flat.h's relocation records; RISC-V ELF psABI, "Relocations").
use Rattle.std.specs.Prelude.{ℕ, Bool, true, false, ◌&&◌, List, [], ◌∷◌, Option, Some, None, if◌then◌else◌}
use Rattle.std.specs.Option.{option_to_list}
use Rattle.psabi_relocs.specs.declared.reloc.Reloc.{Reloc}
use Rattle.psabi_relocs.specs.declared.row.Row.{Row}
use Rattle.psabi_relocs.specs.declared.row.Row.TheVariants.{Pointer, GotHi20}
use Rattle.psabi_relocs.specs.declared.effect.Effect.{Effect}
use Rattle.psabi_relocs.specs.declared.effect.Effect.TheVariants.{Still, Word, Slot}
use Rattle.psabi_relocs.specs.declared.spans.Span.{Span}
use Rattle.psabi_relocs.specs.declared.spans.Spans.{Spans}
use Rattle.psabi_relocs.specs.Class.{is_moving}
use Rattle.psabi_relocs.specs.Row.{field_len, is_got_hi20}
use Rattle.psabi_relocs.specs.Reloc.{reloc}
use Rattle.psabi_relocs.specs.Slot.{slot_of}
use Rattle.psabi_relocs.specs.Field.{absolute}

abbrev pub slot_effect : Reloc → Option ℕ → Effect
slot_effect r None = Still
slot_effect r (Some g) = Slot g r.value

-- of an entry whose symbol moves
abbrev pub moving_effect : Row → List ℕ → ℕ → Reloc → Effect
moving_effect Pointer e i r = Word r.place (absolute 0 r)
moving_effect GotHi20 e i r = slot_effect r (slot_of e i r.place)
moving_effect _ e i r = Still

-- of any entry of the kept section i
abbrev pub effect_of : List ℕ → ℕ → Reloc → Effect
effect_of e i r = if is_moving r.class then moving_effect r.row e i r else Still

-- of entry j of the kept section i
unfoldable pub effect : List ℕ → ℕ → ℕ → Effect
effect e i j = effect_of e i (reloc e i j)

abbrev pub is_pointer : Row → Bool
is_pointer Pointer = true
is_pointer _ = false

abbrev pub own_span : Reloc → Span
own_span r = record { place = r.place; len = field_len r.row; recorded = is_pointer r.row && is_moving r.class }

abbrev pub slot_spans : Reloc → Option ℕ → List Span
slot_spans r None = []
slot_spans r (Some g) = record { place = g; len = 4; recorded = is_moving r.class } ∷ []

-- the bytes of an entry of the kept section i: those of its field at P, and those of its slot
abbrev pub spans_of : List ℕ → ℕ → Reloc → List Span
spans_of e i r = own_span r ∷ (if is_got_hi20 r.row then slot_spans r (slot_of e i r.place) else [])

-- of entry j
unfoldable pub spans : List ℕ → ℕ → ℕ → List Span
spans e i j = spans_of e i (reloc e i j)

abbrev pub listed : Spans → List Span
listed s = s.own ∷ option_to_list s.slot
