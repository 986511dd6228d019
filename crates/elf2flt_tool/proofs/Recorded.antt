-- What is known of an accepted file: its fields lie in the stored bytes and hold their values, and only the recorded ones
-- change with the base.
use Rattle.std.proofs.Common.{◌≡◌, ℕ, zero, suc, ◌<◌, inl, inr, true, List, [], ◌∷◌, ◌++◌, map, flat_map, Option, Some, None, refl, sym, ap, ◌∙◌, arith}
use Rattle.std.specs.List.{range_with_len, AllByRecursion as Each}
use Rattle.std.specs.Option.{option_map, option_or}
use Rattle.std.proofs.lemmas.List.{map-append}
use Rattle.std.proofs.lemmas.Bool.{cases_Bool, cases_eq}
use Rattle.elf32_reader.specs.declared.fault.ElfFault.{ElfFault}
use Rattle.elf32_reader.specs.Header.{count_of}
use Rattle.elf32_reader.specs.Relas.{is_kept, rela_count}
use Rattle.elf32_reader.specs.Faults.{elf_fault}
use Rattle.elf32_reader.proofs.Facts.{option_or-none}
use Rattle.flat_layout.specs.declared.fault.LayoutFault.{LayoutFault}
use Rattle.flat_layout.specs.Layout.{layout}
use Rattle.flat_layout.specs.Fault.{layout_fault}
use Rattle.byte_words.specs.Numbers.{IsBytes}
use Rattle.psabi_relocs.specs.Field.{fields}
use Rattle.psabi_relocs.specs.Fault.{reloc_fault}
use Rattle.flat_layout.proofs.Facts.{clear_numbers}
use Rattle.elf2flt_tool.specs.declared.refusal.Refusal.{Refusal}
use Rattle.elf2flt_tool.specs.declared.refusal.Refusal.TheVariants as refusals
use Rattle.elf2flt_tool.specs.Relocs.{fields_in, fields_of}
use Rattle.elf2flt_tool.specs.Word.{target_outside, word_overlap}
use Rattle.elf2flt_tool.specs.Fault.{first_some, entry_fault, section_fault, relocs_fault, target_fault, overlap_fault, words_fault, address_of, fault_from_layout, fault_from_elf, fault}
use Rattle.elf2flt_tool.proofs.Members.{each-flat_map, each-range}
use Rattle.elf2flt_tool.proofs.Laid.{is_laid}
use Rattle.elf2flt_tool.proofs.Held.{IsHeld, IsTarget, fields_held, fields_raised}
use Rattle.elf2flt_tool.proofs.Sound.{AllSound}
use Rattle.elf2flt_tool.proofs.Raised.{raised}

-- no part of the fault, but perhaps of where the words point and what they meet
pub record IsLinked (e : List ℕ) : Type 0 where
  pub elf : elf_fault e ≡ None
  pub laid : layout_fault e ≡ None
  pub relocs : relocs_fault e ≡ None

-- no part of the fault
pub record IsClear (e : List ℕ) : Type 0 where
  pub elf : elf_fault e ≡ None
  pub laid : layout_fault e ≡ None
  pub relocs : relocs_fault e ≡ None
  pub targets : target_outside e ≡ None
  pub apart : word_overlap e ≡ None

pub is_linked : (e : List ℕ) → IsClear e → IsLinked e
is_linked e clear = record { elf = clear.elf; laid = clear.laid; relocs = clear.relocs }

elf_part : (e : List ℕ) (f : Option ElfFault) → fault_from_elf e f ≡ None → (f ≡ None) × (fault_from_layout e (layout_fault e) ≡ None)
elf_part e None none = (refl, none)
elf_part e (Some f) none = absurd (cc)

layout_part : (e : List ℕ) (f : Option LayoutFault) → fault_from_layout e f ≡ None → (f ≡ None) × (words_fault e ≡ None)
layout_part e None none = (refl, none)
layout_part e (Some f) none = absurd (cc)

unmapped : {X Y : Type 0} (f : X → Y) (x : Option X) → option_map f x ≡ None → x ≡ None
unmapped f None none = refl
unmapped f (Some x) none = absurd (cc)

pub no_target : (e : List ℕ) → target_fault e ≡ None → target_outside e ≡ None
unfolding target_fault
no_target e none = unmapped (λ n. refusals.TargetOutside (address_of (layout e) n)) (target_outside e) none

pub no_overlap : (e : List ℕ) → overlap_fault e ≡ None → word_overlap e ≡ None
unfolding overlap_fault
no_overlap e none = unmapped (λ n. refusals.WordOverlap (address_of (layout e) n)) (word_overlap e) none

pub is_clear : (e : List ℕ) → fault e ≡ None → IsClear e
unfolding fault
is_clear e none =
    let elf = elf_part e (elf_fault e) none in
    let laid = layout_part e (layout_fault e) elf.1 in
    let words = option_or-none (relocs_fault e) (option_or (target_fault e) (overlap_fault e)) laid.1 in
    let points = option_or-none (target_fault e) (overlap_fault e) words.1 in
    record { elf = elf.0; laid = laid.0; relocs = words.0; targets = no_target e points.0; apart = no_overlap e points.1 }

-- where no index has an answer, none of them has one
pub none_below : (f : ℕ → Option Refusal) (n i : ℕ) → first_some f n ≡ None → i < n → f i ≡ None
unfolding first_some
none_below f zero i none below = absurd (omega arith)
none_below f (suc n) i none below =
    let parts = option_or-none (first_some f n) (f n) none in
    elim (cases_eq i n) [
      | inl last ↦ ap f last ∙ parts.1
      | inr earlier ↦ none_below f n i parts.0 (omega arith)
    ]

entry_sound : (e : List ℕ) (i j : ℕ) → entry_fault e i j ≡ None → reloc_fault e i j ≡ None
unfolding entry_fault
entry_sound e i j none = unmapped (refusals.Reloc i j) (reloc_fault e i j) none

section_sound : (e : List ℕ) (i : ℕ) → section_fault e i ≡ None → is_kept e i ≡ true → AllSound e i
unfolding section_fault
section_sound e i none kept j below = entry_sound e i j (none_below (entry_fault e i) (rela_count e i) j (rw kept at none) below)

pub all_sound : (e : List ℕ) (i : ℕ) → relocs_fault e ≡ None → i < count_of e → is_kept e i ≡ true → AllSound e i
unfolding relocs_fault
all_sound e i none below kept = section_sound e i (none_below (section_fault e) (count_of e) i none below) kept

-- ---- the fields of a section, and of the file

section_held : (e : List ℕ) (i : ℕ) → IsBytes e → IsLinked e → i < count_of e → Each (IsHeld e) (fields_in e 0 i)
unfolding fields_in
section_held e i bytes clear below = elim (cases_Bool (is_kept e i)) [
  | inl kept ↦
      let sound = all_sound e i clear.relocs below kept in
      let target : IsTarget e i = record { clear = clear.elf; laid = is_laid e (clear_numbers e clear.laid); bytes = bytes; kept = kept } in
      rw kept (each-flat_map (IsHeld e) (fields e 0 i) (range_with_len 0 (rela_count e i))
      (each-range (λ j. Each (IsHeld e) (fields e 0 i j)) 0 (rela_count e i) (λ j low high. fields_held e i j target (sound j (omega arith)))))
  | inr dropped ↦ rw dropped tt
]

pub all_held : (e : List ℕ) → IsBytes e → IsLinked e → Each (IsHeld e) (fields_of e 0)
unfolding fields_of
all_held e bytes clear =
    each-flat_map (IsHeld e) (fields_in e 0) (range_with_len 0 (count_of e))
    (each-range (λ i. Each (IsHeld e) (fields_in e 0 i)) 0 (count_of e) (λ i low high. section_held e i bytes clear (omega arith)))

flat_map_mapped : {X Y : Type 0} (g : Y → Y) (f h : X → List Y) (xs : List X) → Each (λ x. f x ≡ map g (h x)) xs → flat_map f xs ≡ map g (flat_map h xs)
flat_map_mapped g f h [] a = refl
flat_map_mapped g f h (x ∷ xs) a =
    ap (λ ys. ys ++ flat_map f xs) a.0 ∙ ap (λ ys. map g (h x) ++ ys) (flat_map_mapped g f h xs a.1) ∙ sym (map-append g (h x) (flat_map h xs))

section_raised : (e : List ℕ) (d i : ℕ) → IsLinked e → i < count_of e → fields_in e d i ≡ map (raised d) (fields_in e 0 i)
unfolding fields_in
section_raised e d i clear below = elim (cases_Bool (is_kept e i)) [
  | inl kept ↦
      let sound = all_sound e i clear.relocs below kept in
      rw kept (flat_map_mapped (raised d) (fields e d i) (fields e 0 i) (range_with_len 0 (rela_count e i))
      (each-range (λ j. fields e d i j ≡ map (raised d) (fields e 0 i j)) 0 (rela_count e i) (λ j low high. fields_raised e d i j sound (sound j (omega arith)))))
  | inr dropped ↦ rw dropped refl
]

pub all_raised : (e : List ℕ) (d : ℕ) → IsLinked e → fields_of e d ≡ map (raised d) (fields_of e 0)
unfolding fields_of
all_raised e d clear =
    flat_map_mapped (raised d) (fields_in e d) (fields_in e 0) (range_with_len 0 (count_of e))
    (each-range (λ i. fields_in e d i ≡ map (raised d) (fields_in e 0 i)) 0 (count_of e) (λ i low high. section_raised e d i clear (omega arith)))
