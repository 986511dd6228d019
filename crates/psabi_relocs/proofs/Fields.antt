-- What is known of the bytes of a field that isn't outside.
use Rattle.std.proofs.Common.{◌≡◌, ℕ, ◌+◌, ◌^◌, ◌<◌, ◌≤◌, List, Option, is_some, true, false, not, ◌&&◌, None, Some, nat_lt, arith, subst, refl, ap, sym, ◌∙◌, Bool, if◌then◌else◌, ◌||◌}
use Rattle.std.specs.Option.{option_map, is_none}
use Rattle.std.proofs.lemmas.Bool.{and_from, not-false, ltb-false, lt-ltb, le-leb}
use Rattle.elf32_reader.specs.declared.section.Section.{Section}
use Rattle.elf32_reader.specs.Header.{count_of}
use Rattle.elf32_reader.specs.Sections.{section}
use Rattle.elf32_reader.specs.Relas.{is_kept}
use Rattle.byte_words.proofs.Searches.{or_parts, and_rest, any_below_none}
use Rattle.elf32_reader.proofs.Places.{is_kept_info, is_kept_allocated}
use Rattle.flat_layout.specs.Numbering.{is_laid_out, end_of}
use Rattle.flat_layout.specs.Fault.{ends_too_high, some_ends_too_high, is_too_large}
use Rattle.flat_layout.specs.Rows.{has_numbers}
use Rattle.flat_layout.proofs.Facts.{numbers_of}
use Rattle.psabi_relocs.specs.declared.reloc.Reloc.{Reloc}
use Rattle.psabi_relocs.specs.declared.row.Row.{Row}
use Rattle.psabi_relocs.specs.declared.row.Row.TheVariants.{GotHi20}
use Rattle.psabi_relocs.specs.Row.{field_len, is_got_hi20}
use Rattle.psabi_relocs.specs.Reloc.{reloc, target_section}
use Rattle.psabi_relocs.specs.Bytes.{holds}
use Rattle.psabi_relocs.specs.Pair.{low_of}
use Rattle.psabi_relocs.specs.declared.slot.Slot.{Slot}
use Rattle.psabi_relocs.specs.Slot.{slot_by, slot_of, own_slot, is_slot_outside}
use Rattle.psabi_relocs.specs.Fault.{is_place_outside, is_unbalanced, is_unpaired}
use Rattle.psabi_relocs.proofs.StoredWord.{holds_parts}

-- a field that isn't outside
pub inside_holds : (e : List ℕ) (i : ℕ) (r : Reloc) (n : ℕ) → is_place_outside e i r ≡ false → field_len r.row ≡ n → holds (target_section e i) r.place n ≡ true
unfolding is_place_outside
inside_holds e i r n inside len =
    subst (λ k. holds (target_section e i) r.place k ≡ true) len (not-false _ (or_parts (not (holds (target_section e i) r.place (field_len r.row))) (is_got_hi20 r.row && is_slot_outside e (slot_of e i r.place)) inside).0)

-- the two words of eight bytes
pub holds_first : (s : Section) (a : ℕ) → holds s a 8 ≡ true → holds s a 4 ≡ true
holds_first s a h =
    let parts = holds_parts s a 8 h in
    and_from _ _ (and_from _ _ parts.stored (le-leb s.addr a parts.from)) (le-leb (a + 4) (end_of s) (omega arith))

pub holds_second : (s : Section) (a : ℕ) → holds s a 8 ≡ true → holds s (a + 4) 4 ≡ true
holds_second s a h =
    let parts = holds_parts s a 8 h in
    and_from _ _ (and_from _ _ parts.stored (le-leb s.addr (a + 4) (omega arith))) (le-leb (a + 4 + 4) (end_of s) (omega arith))

-- a section of the image ends at 2^32 at the latest
pub end_fits : (e : List ℕ) (i : ℕ) → has_numbers e ≡ true → i < count_of e → is_laid_out (section e i) ≡ true → end_of (section e i) ≤ 2 ^ 32
unfolding is_too_large some_ends_too_high
end_fits e i none below laid =
    let small = (or_parts (some_ends_too_high e) _ (numbers_of e none).small).0 in
    ltb-false (2 ^ 32) (end_of (section e i)) (and_rest _ _ (any_below_none (λ k. ends_too_high (section e k)) (count_of e) i small below) laid)

-- so the second word has an address
pub second_fits : (e : List ℕ) (i a : ℕ) → has_numbers e ≡ true → is_kept e i ≡ true → holds (target_section e i) a 8 ≡ true → a + 8 ≤ 2 ^ 32
second_fits e i a none kept h =
    let parts = holds_parts (target_section e i) a 8 h in
    let some : nat_lt 0 (target_section e i).size ≡ true = lt-ltb 0 (target_section e i).size (omega arith) in
    let end = end_fits e (section e i).info none (is_kept_info e i kept) (and_from _ _ (is_kept_allocated e i kept) some) in
    omega arith

is_none-map : {X Y : Type 0} (f : X → Y) (o : Option X) → is_none (option_map f o) ≡ is_none o
is_none-map f None = refl
is_none-map f (Some x) = refl

named_alone : (row : Row) (e : List ℕ) (i p : ℕ) (b : Bool) → row ≡ GotHi20 → (is_got_hi20 row && b || is_unbalanced row e i p) ≡ b
named_alone row e i p true got = rw got refl
named_alone row e i p false got = rw got refl

none_where : {X : Type 0} (o : Option X) (none : Bool) → is_some o ≡ not none → none ≡ is_none o
none_where None true is = refl
none_where None false is = absurd (cc)
none_where (Some x) true is = absurd (cc)
none_where (Some x) false is = refl

-- a GOT_HI20 that isn't outside is unpaired where it has no slot
pub slot_is_named : (e : List ℕ) (i : ℕ) (r : Reloc) (g : Option Slot) (none : Bool) → is_some g ≡ not none → is_place_outside e i r ≡ false → r.row ≡ GotHi20
    → option_map (λ slot. slot.address) g ≡ own_slot e i r → none ≡ is_unpaired e i r
unfolding slot_of is_unpaired
slot_is_named e i r g none is inside got own =
    let held = inside_holds e i r 4 inside (ap field_len got) in
    let by = slot_by e (target_section e i) r.place in
    let named : is_none (slot_of e i r.place) ≡ is_none (low_of e i r.place) = rw held (is_none-map (λ j. by (reloc e i j)) (low_of e i r.place)) in
    let found : own_slot e i r ≡ slot_of e i r.place = ap (λ row. if is_got_hi20 row then slot_of e i r.place else None) got in
    none_where g none is ∙ sym (is_none-map (λ slot. slot.address) g) ∙ ap is_none (own ∙ found) ∙ named ∙ sym (named_alone r.row e i r.place (is_none (low_of e i r.place)) got)
