-- The fields of a relocation without a fault: they lie in the stored bytes of the image, and hold their values there.
use Rattle.std.proofs.Common.{◌≡◌, ℕ, ◌+◌, ◌-◌, ◌<◌, ◌≤◌, ◌%◌, ◌^◌, inl, inr, Bool, true, false, not, ◌&&◌, nat_eq, nat_le, List, [], ◌∷◌, ◌++◌, map, Option, Some, None, refl, sym, ap, ◌∙◌, arith, if◌then◌else◌}
use Rattle.std.specs.List.{list_all, AllByRecursion as Each}
use Rattle.std.specs.Option.{is_none}
use Rattle.std.proofs.lemmas.List.{map-append}
use Rattle.std.proofs.lemmas.Bool.{cases_Bool, and_parts, and_from, or_parts, leb-true, lt-ltb, eqb-true, eq-eqb, not-false}
use Rattle.elf32_reader.specs.declared.section.Section.{Section}
use Rattle.elf32_reader.specs.Header.{count_of}
use Rattle.elf32_reader.specs.Sections.{section, is_allocated, is_stored}
use Rattle.elf32_reader.specs.Faults.{elf_fault}
use Rattle.elf32_reader.specs.Relas.{is_kept}
use Rattle.elf32_reader.proofs.Facts.{u32_at_fits}
use Rattle.elf32_reader.proofs.Places.{is_kept_info, is_kept_allocated}
use Rattle.byte_words.proofs.Searches.{and_rest}
use Rattle.flat_layout.specs.Numbering.{has_bytes, end_of}
use Rattle.flat_layout.specs.Layout.{layout, off, stored_end}
use Rattle.byte_words.specs.Numbers.{IsBytes}
use Rattle.psabi_relocs.specs.declared.reloc.Reloc.{Reloc}
use Rattle.psabi_relocs.specs.declared.row.Row.{Row}
use Rattle.psabi_relocs.specs.declared.row.Row.TheVariants.{Mark, Pointer, Absolute, Relative, Call, GotHi20, Low}
use Rattle.psabi_relocs.specs.declared.row.Shape.TheVariants as shapes
use Rattle.psabi_relocs.specs.Class.{is_moving}
use Rattle.psabi_relocs.specs.Row.{field_len, is_mark, is_got_hi20, is_low}
use Rattle.psabi_relocs.specs.Reloc.{reloc, target_section}
use Rattle.psabi_relocs.specs.Bytes.{holds, word_in}
use Rattle.psabi_relocs.specs.Slot.{slot_of, holds_slot, slot_section, is_slot_outside, word_of_slot, slot_word, is_slot_wrong}
use Rattle.psabi_relocs.specs.Shape.{has_value}
use Rattle.psabi_relocs.specs.Field.{Field, Ends, moved, slot_ends, high_ends, ends_of, own_fields, slot_fields, fields_from, fields, holds_value, is_mismatch}
use Rattle.psabi_relocs.specs.Fault.{is_place_outside, reloc_fault}
use Rattle.elf2flt_tool.specs.Image.{bare, word_of}
use Rattle.elf2flt_tool.proofs.Members.{each-append, each-weaker}
use Rattle.elf2flt_tool.proofs.Laid.{IsLaid}
use Rattle.elf2flt_tool.proofs.Bare.{bare_word}
use Rattle.elf2flt_tool.proofs.Sound.{IsSound, sound_entry, mapped, found, AllSound, ends_move, steady}
use Rattle.elf2flt_tool.proofs.Raised.{raised, own_raised, slots_raised}

-- a field of the linked image that holds its value; a recorded one is a whole word
pub record IsHeld (e : List ℕ) (f : Field) : Type 0 where
  pub inside : off (layout e) f.place + 4 ≤ stored_end e
  pub value : has_value f.shape (word_of (bare e) (off (layout e) f.place)) f.value ≡ true
  pub pointer : f.recorded ≡ true → f.shape ≡ shapes.Word

-- ---- lists

each-both : {X : Type 0} (P Q : X → Type 0) (xs : List X) → Each P xs → Each Q xs → Each (λ x. P x × Q x) xs
each-both P Q [] a b = tt
each-both P Q (x ∷ xs) a b = ((a.0, b.0), each-both P Q xs a.1 b.1)

pub each_passes : {X : Type 0} (test : X → Bool) (xs : List X) → list_all test xs ≡ true → Each (λ x. test x ≡ true) xs
each_passes test [] is = tt
each_passes test (x ∷ xs) is = let parts = and_parts (test x) (list_all test xs) is in (parts.0, each_passes test xs parts.1)

-- ---- bytes

-- what it is to hold some bytes
pub record Holds (s : Section) (a n : ℕ) : Type 0 where
  pub stored : is_stored s ≡ true
  pub from : s.addr ≤ a
  pub to : a + n ≤ end_of s

pub held_bytes : (s : Section) (a n : ℕ) → holds s a n ≡ true → Holds s a n
held_bytes s a n is =
    let outer = and_parts (is_stored s && nat_le s.addr a) (nat_le (a + n) (end_of s)) is in
    let inner = and_parts (is_stored s) (nat_le s.addr a) outer.0 in
    record { stored = inner.0; from = leb-true _ _ inner.1; to = leb-true _ _ outer.1 }

-- a word in a stored section of the image
pub record StandsAt (e : List ℕ) (s : Section) (a : ℕ) : Type 0 where
  pub inside : off (layout e) a + 4 ≤ stored_end e
  pub word : word_of (bare e) (off (layout e) a) ≡ word_in e s a

pub stands_at : (e : List ℕ) (i a : ℕ) → elf_fault e ≡ None → IsLaid e → i < count_of e → is_allocated (section e i) ≡ true
    → is_stored (section e i) ≡ true → (section e i).addr ≤ a → a + 4 ≤ end_of (section e i) → StandsAt e (section e i) a
stands_at e i a clear laid below allocated stored from to =
    let bytes : has_bytes (section e i) ≡ true = and_from _ _ (and_from _ _ allocated (lt-ltb 0 (section e i).size (omega arith))) stored in
    let along = laid.along i (a - (section e i).addr) below bytes (omega arith) in
    let place : (section e i).addr + (a - (section e i).addr) ≡ a = omega arith in
    let number : off (layout e) a ≡ off (layout e) (section e i).addr + (a - (section e i).addr) = rw place at along in
    let inside = laid.inside i below bytes in
    record {
      inside = omega arith;
      word = ap (word_of (bare e)) number ∙ bare_word e i (a - (section e i).addr) clear laid below bytes (omega arith);
    }

-- ---- the fields at P

record StandsIn (row : Row) (p : ℕ) (f : Field) : Type 0 where
  from : p ≤ f.place
  to : f.place + 4 ≤ p + field_len row
  pointer : f.recorded ≡ true → f.shape ≡ shapes.Word

own_places : (row : Row) (r : Reloc) (o : Ends) → Each (StandsIn row r.place) (own_fields row 0 r o)
own_places Pointer r o = (record { from = omega arith; to = omega arith; pointer = λ is. refl }, tt)
own_places (Absolute shape) r o = (record { from = omega arith; to = omega arith; pointer = λ is. absurd (cc) }, tt)
own_places (Relative shape) r o = (record { from = omega arith; to = omega arith; pointer = λ is. absurd (cc) }, tt)
own_places Call r o = (record { from = omega arith; to = omega arith; pointer = λ is. absurd (cc) }, (record { from = omega arith; to = omega arith; pointer = λ is. absurd (cc) }, tt))
own_places GotHi20 r o = (record { from = omega arith; to = omega arith; pointer = λ is. absurd (cc) }, tt)
own_places (Low shape) r o = (record { from = omega arith; to = omega arith; pointer = λ is. absurd (cc) }, tt)
own_places _ r o = tt

-- the section that the entries of a kept section apply to
pub record IsTarget (e : List ℕ) (i : ℕ) : Type 0 where
  pub clear : elf_fault e ≡ None
  pub laid : IsLaid e
  pub bytes : IsBytes e
  pub kept : is_kept e i ≡ true

own_held : (e : List ℕ) (i : ℕ) (r : Reloc) (f : Field) → IsTarget e i → holds (target_section e i) r.place (field_len r.row) ≡ true
    → StandsIn r.row r.place f → holds_value e (target_section e i) f ≡ true → IsHeld e f
unfolding holds_value
own_held e i r f t place stands value =
    let held = held_bytes (target_section e i) r.place (field_len r.row) place in
    let from = held.from in
    let to = held.to in
    let low = stands.from in
    let high = stands.to in
    let at = stands_at e (section e i).info f.place t.clear t.laid (is_kept_info e i t.kept) (is_kept_allocated e i t.kept) held.stored (omega arith) (omega arith) in
    record { inside = at.inside; value = ap (λ w. has_value f.shape w f.value) at.word ∙ value; pointer = stands.pointer }

-- what the last two rows say of the bytes at P and of the slot
pub record IsRight (e : List ℕ) (i : ℕ) (r : Reloc) (o : Ends) : Type 0 where
  pub place : holds (target_section e i) r.place (field_len r.row) ≡ true
  pub slot : (is_got_hi20 r.row && is_slot_outside e (slot_of e i r.place)) ≡ false
  pub values : list_all (holds_value e (target_section e i)) (own_fields r.row 0 r o) ≡ true
  pub word : is_slot_wrong e r o.value ≡ false

pub is_right : (e : List ℕ) (i : ℕ) (r : Reloc) (o : Ends) → IsSound e i r → ends_of e i r ≡ Some o → IsRight e i r o
unfolding is_place_outside is_mismatch
is_right e i r o sound from =
    let place = or_parts (not (holds (target_section e i) r.place (field_len r.row))) (is_got_hi20 r.row && is_slot_outside e (slot_of e i r.place)) sound.place in
    let value = or_parts (not (list_all (holds_value e (target_section e i)) (own_fields r.row 0 r o))) (is_slot_wrong e r o.value) (rw from at sound.mismatch) in
    record { place = not-false _ place.0; slot = place.1; values = not-false _ value.0; word = value.1 }

own_fields_held : (e : List ℕ) (i : ℕ) (r : Reloc) (o : Ends) → IsTarget e i → IsRight e i r o → Each (IsHeld e) (own_fields r.row 0 r o)
own_fields_held e i r o t right =
    each-weaker (λ f. StandsIn r.row r.place f × (holds_value e (target_section e i) f ≡ true)) (IsHeld e)
    (λ f both. own_held e i r f t right.place both.0 both.1) (own_fields r.row 0 r o)
    (each-both (StandsIn r.row r.place) (λ f. holds_value e (target_section e i) f ≡ true) (own_fields r.row 0 r o) (own_places r.row r o)
    (each_passes (holds_value e (target_section e i)) (own_fields r.row 0 r o) right.values))

-- ---- the slot

record SlotStands (e : List ℕ) (g : ℕ) : Type 0 where
  inside : off (layout e) g + 4 ≤ stored_end e
  word : word_of (bare e) (off (layout e) g) ≡ slot_word e g

slot_at : (e : List ℕ) (i g : ℕ) → IsTarget e i → (k : Option ℕ) → slot_section e g ≡ k → is_none k ≡ false → SlotStands e g
unfolding slot_section holds_slot slot_word
slot_at e i g t None is some = absurd (cc)
slot_at e i g t (Some k) is some =
    let at = found (λ k. holds_slot g (section e k)) (count_of e) k is in
    let parts = and_parts (has_bytes (section e k)) (holds (section e k) g 4) at.passes in
    let held = held_bytes (section e k) g 4 parts.1 in
    let laid = and_parts _ _ parts.0 in
    let allocated = and_parts (is_allocated (section e k)) _ laid.0 in
    let stands = stands_at e k g t.clear t.laid at.below allocated.0 held.stored held.from held.to in
    record { inside = stands.inside; word = stands.word ∙ ap (word_of_slot e g) (sym is) }

got_slot : (e : List ℕ) (i : ℕ) (r : Reloc) (o : Ends) → is_got_hi20 r.row ≡ true → is_low r.row ≡ false → ends_of e i r ≡ Some o → slot_of e i r.place ≡ Some o.value
unfolding ends_of high_ends
got_slot e i r o got plain from =
    let m = mapped (slot_ends r.place) (slot_of e i r.place) o (rw (plain, got) at from) in
    m.is ∙ ap Some (ap (λ o. o.value) m.to)

got_is_high : (row : Row) → is_got_hi20 row ≡ true → is_low row ≡ false
got_is_high GotHi20 is = refl
got_is_high _ is = absurd (cc)

slot_found : (e : List ℕ) (i : ℕ) (r : Reloc) (o : Ends) → IsTarget e i → IsRight e i r o → is_got_hi20 r.row ≡ true → ends_of e i r ≡ Some o → SlotStands e o.value
slot_found e i r o t right got from =
    let some = got_slot e i r o got (got_is_high r.row got) from in
    let here = and_rest (is_got_hi20 r.row) (is_slot_outside e (slot_of e i r.place)) right.slot got in
    slot_at e i o.value t (slot_section e o.value) refl (rw some at here)

slot_right : (e : List ℕ) (r : Reloc) (g : ℕ) → is_got_hi20 r.row ≡ true → is_slot_wrong e r g ≡ false → slot_word e g ≡ r.value
unfolding is_slot_wrong
slot_right e r g got right =
    let parts = or_parts (not (nat_eq r.addend 0)) (not (nat_eq (slot_word e g) r.value)) (and_rest (is_got_hi20 r.row) _ right got) in
    eqb-true _ _ (not-false _ parts.1)

slot_fits : (e : List ℕ) (g : ℕ) → IsBytes e → (k : Option ℕ) → word_of_slot e g k < 2 ^ 32
slot_fits e g bytes None = omega arith
slot_fits e g bytes (Some k) = u32_at_fits e ((section e k).offset + (g - (section e k).addr)) bytes

slot_word_fits : (e : List ℕ) (g : ℕ) → IsBytes e → slot_word e g < 2 ^ 32
unfolding slot_word
slot_word_fits e g bytes = slot_fits e g bytes (slot_section e g)

unmoved : (v : ℕ) (moves : Bool) → v < 2 ^ 32 → (v + (if moves then 0 else 0)) % 2 ^ 32 ≡ v
unmoved v true fits = omega arith
unmoved v false fits = omega arith

slot_held : (e : List ℕ) (i : ℕ) (r : Reloc) (o : Ends) → IsTarget e i → IsRight e i r o → is_got_hi20 r.row ≡ true → ends_of e i r ≡ Some o
    → IsHeld e (record { place = o.value; shape = shapes.Word; value = moved 0 r % 2 ^ 32; recorded = is_moving r.class })
slot_held e i r o t right got from =
    let stands = slot_found e i r o t right got from in
    let same = slot_right e r o.value got right.word in
    let fits : r.value < 2 ^ 32 = (let small = slot_word_fits e o.value t.bytes in omega arith) in
    record {
      inside = stands.inside;
      value = eq-eqb _ _ (stands.word ∙ same ∙ sym (unmoved r.value (is_moving r.class) fits));
      pointer = λ is. refl;
    }

slots_held : (row : Row) (e : List ℕ) (r : Reloc) (o : Ends) → (is_got_hi20 row ≡ true → IsHeld e (record { place = o.value; shape = shapes.Word; value = moved 0 r % 2 ^ 32; recorded = is_moving r.class }))
    → Each (IsHeld e) (slot_fields row 0 r o)
slots_held GotHi20 e r o held = (held refl, tt)
slots_held _ e r o held = tt

-- ---- an entry

entry_held : (e : List ℕ) (i : ℕ) (r : Reloc) (o : Option Ends) → IsTarget e i → IsSound e i r → ends_of e i r ≡ o → Each (IsHeld e) (fields_from 0 r o)
entry_held e i r None t sound from = tt
entry_held e i r (Some o) t sound from =
    let right = is_right e i r o sound from in
    each-append (IsHeld e) (own_fields r.row 0 r o) (slot_fields r.row 0 r o) (own_fields_held e i r o t right)
    (slots_held r.row e r o (λ got. slot_held e i r o t right got from))

entry_raised : (e : List ℕ) (d i : ℕ) (r : Reloc) (o : Option Ends) → AllSound e i → IsSound e i r → ends_of e i r ≡ o → fields_from d r o ≡ map (raised d) (fields_from 0 r o)
entry_raised e d i r None all sound from = refl
entry_raised e d i r (Some o) all sound from =
    ap (λ fs. fs ++ slot_fields r.row d r o) (own_raised r.row d r o (steady r.row r o sound.absolute (λ is. ends_move e i r o all sound is from)))
    ∙ ap (λ fs. map (raised d) (own_fields r.row 0 r o) ++ fs) (slots_raised r.row d r o)
    ∙ sym (map-append (raised d) (own_fields r.row 0 r o) (slot_fields r.row 0 r o))

-- a mark has no field
mark_fields : (row : Row) (d : ℕ) (r : Reloc) (o : Ends) → is_mark row ≡ true → own_fields row d r o ++ slot_fields row d r o ≡ []
mark_fields Mark d r o is = refl
mark_fields _ d r o is = absurd (cc)

mark_from : (d : ℕ) (r : Reloc) (o : Option Ends) → is_mark r.row ≡ true → fields_from d r o ≡ []
mark_from d r None is = refl
mark_from d r (Some o) is = mark_fields r.row d r o is

pub fields_held : (e : List ℕ) (i j : ℕ) → IsTarget e i → reloc_fault e i j ≡ None → Each (IsHeld e) (fields e 0 i j)
unfolding fields
fields_held e i j t none = elim (cases_Bool (is_mark (reloc e i j).row)) [
  | inl mark ↦ rw (mark_from 0 (reloc e i j) (ends_of e i (reloc e i j)) mark) tt
  | inr plain ↦ entry_held e i (reloc e i j) (ends_of e i (reloc e i j)) t (sound_entry e i j none plain) refl
]

pub fields_raised : (e : List ℕ) (d i j : ℕ) → AllSound e i → reloc_fault e i j ≡ None → fields e d i j ≡ map (raised d) (fields e 0 i j)
unfolding fields
fields_raised e d i j all none = elim (cases_Bool (is_mark (reloc e i j).row)) [
  | inl mark ↦ mark_from d (reloc e i j) (ends_of e i (reloc e i j)) mark ∙ ap (map (raised d)) (sym (mark_from 0 (reloc e i j) (ends_of e i (reloc e i j)) mark))
  | inr plain ↦ entry_raised e d i (reloc e i j) (ends_of e i (reloc e i j)) all (sound_entry e i j none plain) refl
]
