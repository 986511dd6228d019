-- The slot of a GOT_HI20 of an accepted file: every low part that names the place gives the same one. And what
-- belongs to a pair.
use Rattle.std.proofs.Common.{◌≡◌, ℕ, ◌+◌, ◌<◌, ◌%◌, ◌^◌, inl, inr, Bool, true, false, nat_eq, List, Option, Some, None, refl, sym, ap, ◌∙◌, arith}
use Rattle.std.specs.List.{list_all, range_with_len}
use Rattle.std.specs.Option.{is_none}
use Rattle.std.proofs.lemmas.Bool.{cases_Bool, and_parts, or_parts, eqb-true}
use Rattle.std.proofs.lemmas.Nat.{mod_below}
use Rattle.elf32_reader.specs.declared.section.Section.{Section}
use Rattle.elf32_reader.specs.Sections.{section}
use Rattle.elf32_reader.specs.Relas.{is_kept, rela, rela_count}
use Rattle.elf32_reader.proofs.Places.{is_kept_info, is_kept_allocated}
use Rattle.byte_words.proofs.Searches.{and_rest}
use Rattle.flat_layout.specs.declared.layout.Layout.{Layout}
use Rattle.flat_layout.specs.Layout.{layout, off}
use Rattle.rv32im_table.specs.Immediate.{imm_u}
use Rattle.psabi_relocs.specs.declared.reloc.Reloc.{Reloc}
use Rattle.psabi_relocs.specs.declared.row.Row.{Row}
use Rattle.psabi_relocs.specs.declared.row.Row.TheVariants.{Mark, GotHi20, Low}
use Rattle.psabi_relocs.specs.declared.row.Shape.TheVariants.{LowI, LowS}
use Rattle.psabi_relocs.specs.Row.{row_of, field_len, is_mark, is_got_hi20, is_high, is_low}
use Rattle.psabi_relocs.specs.Reloc.{reloc, target_section}
use Rattle.psabi_relocs.specs.Bytes.{holds, word_in}
use Rattle.psabi_relocs.specs.Pair.{is_high_at, high_of, names, low_of}
use Rattle.psabi_relocs.specs.Slot.{low_immediate, slot_by, slot_of}
use Rattle.psabi_relocs.specs.Shape.{low_part}
use Rattle.psabi_relocs.specs.Field.{Ends, own_ends, slot_ends, relative, high_ends, pair_ends, ends_of, own_fields, holds_value}
use Rattle.psabi_relocs.specs.Fault.{is_lone_low, is_unpaired, is_unbalanced, reloc_fault}
use Rattle.elf2flt_tool.specs.Same.{IsHighAt}
use Rattle.elf2flt_tool.specs.Image.{bare, word_of}
use Rattle.elf2flt_tool.proofs.Members.{has-range, member_has}
use Rattle.elf2flt_tool.proofs.Sound.{IsSound, sound_entry, AllSound, found, mapped}
use Rattle.elf2flt_tool.proofs.Held.{IsTarget, held_bytes, stands_at, each_passes, is_right}
use Rattle.elf2flt_tool.proofs.Shapes.{is_placed, got_plain}

-- ---- a low part has the I or the S immediate

abbrev has_low_shape : Row → Bool
has_low_shape (Low LowI) = true
has_low_shape (Low LowS) = true
has_low_shape (Low _) = false
has_low_shape _ = true

-- of each of the 256 types
all_shapes : list_all (λ k. has_low_shape (row_of k)) (range_with_len 0 256) ≡ true
unfolding row_of
all_shapes = refl

row_shape : (k : ℕ) → k < 256 → has_low_shape (row_of k) ≡ true
row_shape k below =
    member_has (λ k. has_low_shape (row_of k) ≡ true) (range_with_len 0 256) (each_passes (λ k. has_low_shape (row_of k)) (range_with_len 0 256) all_shapes) k
    (has-range 0 256 k (omega arith) (omega arith))

kind_below : (e : List ℕ) (i j : ℕ) → (rela e i j).kind < 256
unfolding rela
kind_below e i j = mod_below _ 256 (omega arith)

reloc_shape : (e : List ℕ) (i j : ℕ) → has_low_shape (reloc e i j).row ≡ true
unfolding reloc
reloc_shape e i j = row_shape (rela e i j).kind (kind_below e i j)

low_plain : (row : Row) → is_low row ≡ true → is_mark row ≡ false
low_plain Mark low = absurd (cc)
low_plain _ low = refl

low_len : (row : Row) → is_low row ≡ true → field_len row ≡ 4
low_len (Low shape) low = refl
low_len _ low = absurd (cc)

got_len : (row : Row) → is_got_hi20 row ≡ true → field_len row ≡ 4
got_len GotHi20 got = refl
got_len _ got = absurd (cc)

-- the immediate of a low part that holds its value
immediate_is : (row : Row) (e : List ℕ) (s : Section) (r : Reloc) (o : Ends) → is_low row ≡ true → has_low_shape row ≡ true
    → list_all (holds_value e s) (own_fields row 0 r o) ≡ true → low_immediate row (word_in e s r.place) ≡ low_part (relative 0 o)
unfolding holds_value
immediate_is (Low LowI) e s r o low shape holds = eqb-true _ _ (and_parts _ _ holds).0
immediate_is (Low LowS) e s r o low shape holds = eqb-true _ _ (and_parts _ _ holds).0
immediate_is _ e s r o low shape holds = absurd (cc)

-- ---- what the low parts of one place share

-- entry l of section i is a low part that names p
pub record IsLowOf (e : List ℕ) (i p l : ℕ) : Type 0 where
  pub below : l < rela_count e i
  pub low : is_low (reloc e i l).row ≡ true
  pub names : (reloc e i l).value ≡ p

record HasEnds (o : Option Ends) : Type 0 where
  ends : Ends
  are : o ≡ Some ends

high_some : (e : List ℕ) (i : ℕ) (r : Reloc) (g : ℕ) → slot_of e i r.place ≡ Some g → HasEnds (high_ends e i r)
unfolding high_ends
high_some e i r g slot = elim (cases_Bool (is_got_hi20 r.row)) [
  | inl got ↦ record { ends = slot_ends r.place g; are = rw (got, slot) refl }
  | inr other ↦ record { ends = own_ends r; are = rw other refl }
]

place_of_high : (q : ℕ) (r : Reloc) → is_high_at q r ≡ true → r.place ≡ q
unfolding is_high_at
place_of_high q r is = eqb-true _ _ (and_parts (is_high r.row) (nat_eq r.place q) is).1

pair_some : (e : List ℕ) (i p g : ℕ) → slot_of e i p ≡ Some g → (pair : Option ℕ) → high_of e i p ≡ pair → is_none pair ≡ false → HasEnds (pair_ends e i pair)
unfolding high_of
pair_some e i p g slot None is some = absurd (cc)
pair_some e i p g slot (Some j) is some =
    let high = found (λ j. is_high_at p (reloc e i j)) (rela_count e i) j is in
    high_some e i (reloc e i j) g (ap (slot_of e i) (place_of_high p (reloc e i j) high.passes) ∙ slot)

low_sound : (e : List ℕ) (i p l : ℕ) → AllSound e i → IsLowOf e i p l → IsSound e i (reloc e i l)
low_sound e i p l all is = sound_entry e i l (all l is.below) (low_plain _ is.low)

not_alone : (e : List ℕ) (i : ℕ) (r : Reloc) → is_low r.row ≡ true → is_lone_low e i r ≡ false → is_none (high_of e i r.value) ≡ false
unfolding is_lone_low
not_alone e i r low lone = (or_parts _ _ (and_rest (is_low r.row) _ lone low)).1

low_ends : (e : List ℕ) (i : ℕ) (r : Reloc) → is_low r.row ≡ true → ends_of e i r ≡ pair_ends e i (high_of e i r.value)
unfolding ends_of
low_ends e i r low = rw low refl

-- the immediate that all low parts of the place p have
record HasImmediate (e : List ℕ) (i p : ℕ) : Type 0 where
  value : ℕ
  is : (l : ℕ) → IsLowOf e i p l → low_immediate (reloc e i l).row (word_in e (target_section e i) (reloc e i l).place) ≡ value

immediate_by : (e : List ℕ) (i p l : ℕ) (o : Ends) → AllSound e i → pair_ends e i (high_of e i p) ≡ Some o → IsLowOf e i p l
    → low_immediate (reloc e i l).row (word_in e (target_section e i) (reloc e i l).place) ≡ low_part (relative 0 o)
immediate_by e i p l o all pair is =
    let r = reloc e i l in
    let ends = low_ends e i r is.low ∙ ap (λ q. pair_ends e i (high_of e i q)) is.names ∙ pair in
    immediate_is r.row e (target_section e i) r o is.low (reloc_shape e i l) (is_right e i r o (low_sound e i p l all is) ends).values

has_immediate : (e : List ℕ) (i p g l : ℕ) → AllSound e i → slot_of e i p ≡ Some g → IsLowOf e i p l → HasImmediate e i p
has_immediate e i p g l all slot is =
    let some = ap (λ q. is_none (high_of e i q)) (sym is.names) ∙ not_alone e i (reloc e i l) is.low (low_sound e i p l all is).lone in
    let pair = pair_some e i p g slot (high_of e i p) refl some in
    record { value = low_part (relative 0 pair.ends); is = λ k low. immediate_by e i p k pair.ends all pair.are low }

-- ---- the slot

record IsSlot (e : List ℕ) (i p g : ℕ) : Type 0 where
  held : holds (target_section e i) p 4 ≡ true
  index : ℕ
  low : IsLowOf e i p index
  by : slot_by e (target_section e i) p (reloc e i index) ≡ g

named : (e : List ℕ) (i p l : ℕ) → low_of e i p ≡ Some l → IsLowOf e i p l
unfolding low_of names
named e i p l some =
    let s = target_section e i in
    let here = found (λ j. names s p (reloc e i j)) (rela_count e i) l some in
    let value = and_parts _ _ (and_parts _ _ here.passes).0 in
    let low = and_parts _ _ (and_parts _ _ value.0).0 in
    record { below = here.below; low = low.0; names = eqb-true _ _ value.1 }

is_slot : (e : List ℕ) (i p g : ℕ) → slot_of e i p ≡ Some g → IsSlot e i p g
unfolding slot_of
is_slot e i p g slot = elim (cases_Bool (holds (target_section e i) p 4)) [
  | inl held ↦
      let m = mapped (λ j. slot_by e (target_section e i) p (reloc e i j)) (low_of e i p) g (rw held at slot) in
      record { held = held; index = m.from; low = named e i p m.from m.is; by = m.to }
  | inr out ↦ absurd (let none = rw out at slot in cc)
]

-- p, the immediate there and that of a low part of this row at q, in a picture
abbrev pub slot_from : Layout → (ℕ → ℕ) → ℕ → Row → ℕ → ℕ
slot_from l m p row q = (p + imm_u (word_of m (off l p)) + low_immediate row (word_of m (off l q))) % 2 ^ 32

word_held : (e : List ℕ) (i a : ℕ) → IsTarget e i → holds (target_section e i) a 4 ≡ true → word_in e (target_section e i) a ≡ word_of (bare e) (off (layout e) a)
word_held e i a t is =
    let held = held_bytes (target_section e i) a 4 is in
    sym (stands_at e (section e i).info a t.clear t.laid (is_kept_info e i t.kept) (is_kept_allocated e i t.kept) held.stored held.from held.to).word

low_held : (e : List ℕ) (i p l : ℕ) → AllSound e i → IsLowOf e i p l → holds (target_section e i) (reloc e i l).place 4 ≡ true
low_held e i p l all is =
    ap (λ n. holds (target_section e i) (reloc e i l).place n) (sym (low_len (reloc e i l).row is.low))
    ∙ (is_placed e i l (all l is.below) (low_plain _ is.low)).own

same_slot : (e : List ℕ) (s : Section) (p : ℕ) (r t : Reloc) → low_immediate r.row (word_in e s r.place) ≡ low_immediate t.row (word_in e s t.place) → slot_by e s p r ≡ slot_by e s p t
unfolding slot_by
same_slot e s p r t same = ap (λ n. (p + imm_u (word_in e s p) + n) % 2 ^ 32) same

pictured : (e : List ℕ) (s : Section) (p : ℕ) (r : Reloc) (l : Layout) (m : ℕ → ℕ) → word_in e s p ≡ word_of m (off l p) → word_in e s r.place ≡ word_of m (off l r.place)
    → slot_by e s p r ≡ slot_from l m p r.row r.place
unfolding slot_by
pictured e s p r l m high low = λ k. (p + imm_u (high k) + low_immediate r.row (low k)) % 2 ^ 32

-- by any low part that names the place
pub slot_by_any : (e : List ℕ) (i p g l : ℕ) → IsTarget e i → AllSound e i → slot_of e i p ≡ Some g → IsLowOf e i p l
    → g ≡ slot_from (layout e) (bare e) p (reloc e i l).row (reloc e i l).place
slot_by_any e i p g l t all slot is =
    let s = target_section e i in
    let here = is_slot e i p g slot in
    let imm = has_immediate e i p g l all slot is in
    sym here.by
    ∙ same_slot e s p (reloc e i here.index) (reloc e i l) (imm.is here.index here.low ∙ sym (imm.is l is))
    ∙ pictured e s p (reloc e i l) (layout e) (bare e) (word_held e i p t here.held) (word_held e i (reloc e i l).place t (low_held e i p l all is))

-- an accepted GOT_HI20 has one
pub record HasSlot (e : List ℕ) (i p : ℕ) : Type 0 where
  pub slot : ℕ
  pub is : slot_of e i p ≡ Some slot

slot_some : (e : List ℕ) (i p : ℕ) (low : Option ℕ) → holds (target_section e i) p 4 ≡ true → low_of e i p ≡ low → is_none low ≡ false → HasSlot e i p
unfolding slot_of
slot_some e i p None held is some = absurd (cc)
slot_some e i p (Some l) held is some = record { slot = slot_by e (target_section e i) p (reloc e i l); is = rw (held, is) refl }

not_unpaired : (e : List ℕ) (i : ℕ) (r : Reloc) → is_got_hi20 r.row ≡ true → is_unpaired e i r ≡ false → is_none (low_of e i r.place) ≡ false
unfolding is_unpaired
not_unpaired e i r got paired = and_rest (is_got_hi20 r.row) _ (or_parts _ (is_unbalanced r.row e i r.place) paired).0 got

pub has_slot : (e : List ℕ) (i j : ℕ) → reloc_fault e i j ≡ None → is_got_hi20 (reloc e i j).row ≡ true → HasSlot e i (reloc e i j).place
has_slot e i j none got =
    let r = reloc e i j in
    let plain = got_plain r.row got in
    let held = ap (λ n. holds (target_section e i) r.place n) (sym (got_len r.row got)) ∙ (is_placed e i j none plain).own in
    slot_some e i r.place (low_of e i r.place) held refl (not_unpaired e i r got (sound_entry e i j none plain).unpaired)

-- ---- a low part with its high part

pub record HasLow (e : List ℕ) (i p : ℕ) : Type 0 where
  pub index : ℕ
  pub is : IsLowOf e i p index

-- an accepted GOT_HI20 has a low part
pub has_low : (e : List ℕ) (i j : ℕ) → reloc_fault e i j ≡ None → is_got_hi20 (reloc e i j).row ≡ true → HasLow e i (reloc e i j).place
has_low e i j none got =
    let there = has_slot e i j none got in
    let slot = is_slot e i (reloc e i j).place there.slot there.is in
    record { index = slot.index; is = slot.low }

pub record HasHigh (e : List ℕ) (i p : ℕ) : Type 0 where
  pub index : ℕ
  pub is : IsHighAt e p i index

high_at : (e : List ℕ) (i p : ℕ) → is_kept e i ≡ true → (high : Option ℕ) → high_of e i p ≡ high → is_none high ≡ false → HasHigh e i p
unfolding high_of is_high_at
high_at e i p kept None is some = absurd (cc)
high_at e i p kept (Some j) is some =
    let here = found (λ j. is_high_at p (reloc e i j)) (rela_count e i) j is in
    let parts = and_parts (is_high (reloc e i j).row) (nat_eq (reloc e i j).place p) here.passes in
    record { index = j; is = record { kept = kept; below = here.below; high = parts.0; place = eqb-true _ _ parts.1 } }

-- an accepted low part has a high part
pub has_high : (e : List ℕ) (i p l : ℕ) → is_kept e i ≡ true → AllSound e i → IsLowOf e i p l → HasHigh e i p
has_high e i p l kept all is =
    high_at e i p kept (high_of e i p) refl (ap (λ q. is_none (high_of e i q)) (sym is.names) ∙ not_alone e i (reloc e i l) is.low (low_sound e i p l all is).lone)
