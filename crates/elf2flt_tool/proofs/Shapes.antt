-- The bytes and the words of one relocation: at most a field and a slot, which lie in the stored bytes of the image.
use Rattle.std.proofs.Common.{◌≡◌, ℕ, ◌+◌, ◌-◌, ◌<◌, ◌≤◌, inl, inr, true, false, not, ◌&&◌, List, [], ◌∷◌, flat_map, Option, Some, None, refl, arith, if◌then◌else◌}
use Rattle.std.specs.List.{range_with_len, AllByRecursion as Each}
use Rattle.std.specs.Option.{is_none}
use Rattle.std.proofs.lemmas.Bool.{cases_Bool, and_parts, and_from, or_parts, not-false, lt-ltb}
use Rattle.elf32_reader.specs.Header.{count_of}
use Rattle.elf32_reader.specs.Sections.{section, is_allocated}
use Rattle.elf32_reader.specs.Relas.{is_kept, rela_count}
use Rattle.elf32_reader.proofs.Places.{is_kept_info, is_kept_allocated}
use Rattle.byte_words.proofs.Searches.{and_rest}
use Rattle.flat_layout.specs.declared.layout.Layout.{Layout}
use Rattle.flat_layout.specs.Numbering.{has_bytes}
use Rattle.flat_layout.specs.Layout.{layout, off, stored_end}
use Rattle.psabi_relocs.specs.declared.reloc.Reloc.{Reloc}
use Rattle.psabi_relocs.specs.declared.row.Row.{Row}
use Rattle.psabi_relocs.specs.declared.row.Row.TheVariants.{Mark, Pointer, GotHi20}
use Rattle.psabi_relocs.specs.declared.spans.Span.{Span}
use Rattle.psabi_relocs.specs.Class.{is_moving}
use Rattle.psabi_relocs.specs.Row.{field_len, is_mark, is_got_hi20}
use Rattle.psabi_relocs.specs.Reloc.{reloc, target_section}
use Rattle.psabi_relocs.specs.Bytes.{holds}
use Rattle.psabi_relocs.specs.Slot.{slot_of, holds_slot, slot_section, is_slot_outside}
use Rattle.psabi_relocs.specs.Effect.{is_pointer, own_span, slot_spans, spans}
use Rattle.psabi_relocs.specs.Fault.{is_place_outside, reloc_fault}
use Rattle.elf2flt_tool.specs.Relocs.{spans_in, spans_of}
use Rattle.elf2flt_tool.specs.Cover.{IsInside, recorded_of}
use Rattle.elf2flt_tool.specs.Fault.{relocs_fault}
use Rattle.elf2flt_tool.proofs.Members.{each-append, each-flat_map, each-map, each-range}
use Rattle.elf2flt_tool.proofs.Laid.{IsLaid}
use Rattle.elf2flt_tool.proofs.Sound.{found, sound_entry}
use Rattle.elf2flt_tool.proofs.Held.{held_bytes}
use Rattle.elf2flt_tool.proofs.Recorded.{all_sound}
use Rattle.elf2flt_tool.proofs.Meeting.{IsEntry}

-- ---- the form of an entry's spans

entry_shape : (row : Row) (r : Reloc) (g : Option ℕ)
    → IsEntry (record { place = r.place; len = field_len row; recorded = is_pointer row && is_moving r.class } ∷ (if is_got_hi20 row then slot_spans r g else []))
entry_shape Pointer r g = λ is. refl
entry_shape GotHi20 r None = λ is. absurd (cc)
entry_shape GotHi20 r (Some g) = (refl, refl, refl)
entry_shape _ r g = λ is. absurd (cc)

pub spans_entry : (e : List ℕ) (i j : ℕ) → IsEntry (spans e i j)
unfolding spans
spans_entry e i j = entry_shape (reloc e i j).row (reloc e i j) (slot_of e i (reloc e i j).place)

-- ---- where the spans stand

bytes_inside : (e : List ℕ) (k a n : ℕ) → IsLaid e → k < count_of e → is_allocated (section e k) ≡ true → holds (section e k) a n ≡ true → 0 < n → off (layout e) a + n ≤ stored_end e
bytes_inside e k a n laid below allocated held some =
    let h = held_bytes (section e k) a n held in
    let from = h.from in
    let to = h.to in
    let bytes : has_bytes (section e k) ≡ true = and_from _ _ (and_from _ _ allocated (lt-ltb 0 (section e k).size (omega arith))) h.stored in
    let along = laid.along k (a - (section e k).addr) below bytes (omega arith) in
    let place : (section e k).addr + (a - (section e k).addr) ≡ a = omega arith in
    let number : off (layout e) a ≡ off (layout e) (section e k).addr + (a - (section e k).addr) = rw place at along in
    let inside = laid.inside k below bytes in
    omega arith

mark_len : (row : Row) → is_mark row ≡ true → field_len row ≡ 0
mark_len Mark is = refl
mark_len _ is = absurd (cc)

pub got_plain : (row : Row) → is_got_hi20 row ≡ true → is_mark row ≡ false
got_plain Mark is = absurd (cc)
got_plain _ is = refl

-- what the test for places says of an entry that passes it
pub record IsPlaced (e : List ℕ) (i : ℕ) (r : Reloc) : Type 0 where
  pub own : holds (target_section e i) r.place (field_len r.row) ≡ true
  pub slot : (is_got_hi20 r.row && is_slot_outside e (slot_of e i r.place)) ≡ false

pub is_placed : (e : List ℕ) (i j : ℕ) → reloc_fault e i j ≡ None → is_mark (reloc e i j).row ≡ false → IsPlaced e i (reloc e i j)
unfolding is_place_outside
is_placed e i j none plain =
    let r = reloc e i j in
    let sound = sound_entry e i j none plain in
    let parts = or_parts (not (holds (target_section e i) r.place (field_len r.row))) (is_got_hi20 r.row && is_slot_outside e (slot_of e i r.place)) sound.place in
    record { own = not-false _ parts.0; slot = parts.1 }

own_inside : (e : List ℕ) (i j : ℕ) → IsLaid e → is_kept e i ≡ true → reloc_fault e i j ≡ None → IsInside (layout e) (stored_end e) (own_span (reloc e i j))
own_inside e i j laid kept none = λ some. elim (cases_Bool (is_mark (reloc e i j).row)) [
  | inl mark ↦ absurd (let empty = mark_len (reloc e i j).row mark in omega arith)
  | inr plain ↦
      bytes_inside e (section e i).info (reloc e i j).place (field_len (reloc e i j).row) laid (is_kept_info e i kept) (is_kept_allocated e i kept) (is_placed e i j none plain).own some
]

slot_at : (e : List ℕ) (g : ℕ) (k : Option ℕ) → IsLaid e → slot_section e g ≡ k → is_none k ≡ false → off (layout e) g + 4 ≤ stored_end e
unfolding slot_section holds_slot
slot_at e g None laid is some = absurd (cc)
slot_at e g (Some k) laid is some =
    let at = found (λ k. holds_slot g (section e k)) (count_of e) k is in
    let parts = and_parts (has_bytes (section e k)) (holds (section e k) g 4) at.passes in
    let stored = and_parts _ _ parts.0 in
    let allocated = and_parts (is_allocated (section e k)) _ stored.0 in
    bytes_inside e k g 4 laid at.below allocated.0 parts.1 (omega arith)

slot_inside : (e : List ℕ) (i j g : ℕ) → IsLaid e → reloc_fault e i j ≡ None → is_got_hi20 (reloc e i j).row ≡ true → slot_of e i (reloc e i j).place ≡ Some g
    → off (layout e) g + 4 ≤ stored_end e
slot_inside e i j g laid none got some =
    let placed = is_placed e i j none (got_plain (reloc e i j).row got) in
    let here = and_rest (is_got_hi20 (reloc e i j).row) (is_slot_outside e (slot_of e i (reloc e i j).place)) placed.slot got in
    slot_at e g (slot_section e g) laid refl (rw some at here)

slots_inside : (l : Layout) (n : ℕ) (r : Reloc) (g : Option ℕ) → ((k : ℕ) → g ≡ Some k → off l k + 4 ≤ n) → Each (IsInside l n) (slot_spans r g)
slots_inside l n r None inside = tt
slots_inside l n r (Some k) inside = ((λ some. inside k refl), tt)

-- the bytes of an entry without a fault lie in the stored bytes
pub spans_inside : (e : List ℕ) (i j : ℕ) → IsLaid e → is_kept e i ≡ true → reloc_fault e i j ≡ None → Each (IsInside (layout e) (stored_end e)) (spans e i j)
unfolding spans
spans_inside e i j laid kept none =
    let r = reloc e i j in
    let own = own_inside e i j laid kept none in
    elim (cases_Bool (is_got_hi20 r.row)) [
      | inl got ↦ rw got (own, slots_inside (layout e) (stored_end e) r (slot_of e i r.place) (λ k is. slot_inside e i j k laid none got is))
      | inr other ↦ rw other (own, tt)
    ]

-- ---- all entries

-- an entry whose bytes are among the first n of the image
abbrev pub IsPlain : Layout → ℕ → List Span → Type 0
IsPlain l n ss = IsEntry ss × Each (IsInside l n) ss

section_plain : (e : List ℕ) (i : ℕ) → IsLaid e → relocs_fault e ≡ None → i < count_of e → Each (IsPlain (layout e) (stored_end e)) (spans_in e i)
unfolding spans_in
section_plain e i laid none below = elim (cases_Bool (is_kept e i)) [
  | inl kept ↦
      let sound = all_sound e i none below kept in
      rw kept (each-map (IsPlain (layout e) (stored_end e)) (spans e i) (range_with_len 0 (rela_count e i))
      (each-range (λ j. IsPlain (layout e) (stored_end e) (spans e i j)) 0 (rela_count e i)
      (λ j low high. (spans_entry e i j, spans_inside e i j laid kept (sound j (omega arith))))))
  | inr dropped ↦ rw dropped tt
]

pub all_plain : (e : List ℕ) → IsLaid e → relocs_fault e ≡ None → Each (IsPlain (layout e) (stored_end e)) (spans_of e)
unfolding spans_of
all_plain e laid none =
    each-flat_map (IsPlain (layout e) (stored_end e)) (spans_in e) (range_with_len 0 (count_of e))
    (each-range (λ i. Each (IsPlain (layout e) (stored_end e)) (spans_in e i)) 0 (count_of e) (λ i low high. section_plain e i laid none (omega arith)))

recorded_inside : (l : Layout) (n : ℕ) (ss : List Span) → IsPlain l n ss → Each (λ r. r.place + 4 ≤ n) (recorded_of l ss)
recorded_inside l n [] plain = tt
recorded_inside l n (own ∷ []) plain = elim (cases_Bool own.recorded) [
  | inl recorded ↦
      let len = plain.0 recorded in
      let inside : off l own.place + 4 ≤ n = (let at = plain.1.0 (omega arith) in omega arith) in
      rw recorded (inside, tt)
  | inr still ↦ rw still tt
]
recorded_inside l n (own ∷ slot ∷ []) plain = elim (cases_Bool slot.recorded) [
  | inl recorded ↦
      let len = plain.0.2 in
      let inside : off l slot.place + 4 ≤ n = (let at = plain.1.1.0 (omega arith) in omega arith) in
      rw recorded (inside, tt)
  | inr still ↦ rw still tt
]
recorded_inside l n (own ∷ slot ∷ more ∷ rest) plain = absurd plain.0

pub all_recorded : (l : Layout) (n : ℕ) (es : List (List Span)) → Each (IsPlain l n) es → Each (λ r. r.place + 4 ≤ n) (flat_map (recorded_of l) es)
all_recorded l n [] plain = tt
all_recorded l n (ss ∷ es) plain = each-append (λ r. r.place + 4 ≤ n) (recorded_of l ss) (flat_map (recorded_of l) es) (recorded_inside l n ss plain.0) (all_recorded l n es plain.1)

pub all_entries : (l : Layout) (n : ℕ) (es : List (List Span)) → Each (IsPlain l n) es → Each IsEntry es
all_entries l n [] plain = tt
all_entries l n (ss ∷ es) plain = (plain.0.0, all_entries l n es plain.1)
