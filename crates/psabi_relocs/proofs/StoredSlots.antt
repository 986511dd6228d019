-- The section of a slot is the last one that begins at or below it, where sections don't meet.
use Rattle.std.proofs.Common.{◌≡◌, ℕ, ◌+◌, ◌<◌, ◌≤◌, Bool, true, false, ◌&&◌, ◌==◌, List, Option, Some, None, if◌then◌else◌, inl, inr, sym, ◌∙◌, ap, refl, arith, eq-eqb}
use Rattle.std.specs.Option.{IsSome}
use Rattle.std.specs.Ordering.{nat_cmp, is_lt, is_gt}
use Rattle.std.specs.BTreeMap as tree
use Rattle.std.proofs.lemmas.Bool.{and_parts, and_from, cases_lt, cases_eq, cases_Bool, eqb-true, ltb-true}
use Rattle.std.proofs.lemmas.Grind.{common_steps}
use Rattle.std.proofs.lemmas.Map.Keys.{ge_from_not_lt}
use Rattle.elf32_reader.specs.declared.section.Section.{Section}
use Rattle.elf32_reader.specs.Header.{count_of}
use Rattle.elf32_reader.specs.Sections.{section, is_allocated}
use Rattle.flat_layout.specs.Numbering.{is_laid_out, has_bytes, end_of}
use Rattle.flat_layout.specs.Rows.{has_numbers}
use Rattle.flat_layout.proofs.Facts.{laid_out}
use Rattle.flat_layout.proofs.Numbers.{sections_apart}
use Rattle.psabi_relocs.specs.declared.stored.StoredSections.{StoredSections}
use Rattle.psabi_relocs.specs.Search.{first_below}
use Rattle.psabi_relocs.specs.Bytes.{holds}
use Rattle.psabi_relocs.specs.Slot.{holds_slot, slot_section}
use Rattle.psabi_relocs.specs.Index.{AreStored}
use Rattle.psabi_relocs.proofs.StoredWord.{holds_parts}
use Rattle.psabi_relocs.proofs.IndexSearches.{first_below_passes, first_below_some, first_below_none, first_below_only}

pub not_above : (a b : ℕ) → a ≤ b → is_gt (nat_cmp a b) ≡ false
not_above a b h = grind (arith, common_steps)

-- a key above the last one has nothing
pub none_behind : (o : Option ℕ) (last q : ℕ) → (IsSome o → is_lt (nat_cmp last q) ≡ false) → last < q → o ≡ None
none_behind None last q up_to behind = refl
none_behind (Some x) last q up_to behind = absurd (let least = ge_from_not_lt last q (up_to refl) in omega arith)

-- a section with bytes that begins at a
abbrev pub begins : List ℕ → ℕ → ℕ → Bool
begins e a k = has_bytes (section e k) && (section e k).addr == a

-- the parts of a section of the image with the four bytes at a
record HoldsSlot (a : ℕ) (s : Section) : Type 0 where
  bytes : has_bytes s ≡ true
  from : s.addr ≤ a
  to : a + 4 ≤ end_of s

holds_slot_parts : (a : ℕ) (s : Section) → holds_slot a s ≡ true → HoldsSlot a s
unfolding holds_slot
holds_slot_parts a s h =
    let both = and_parts (has_bytes s) (holds s a 4) h in
    let parts = holds_parts s a 4 both.1 in
    record { bytes = both.0; from = parts.from; to = parts.to }

laid_size : (s : Section) → is_laid_out s ≡ true → 0 < s.size
laid_size s h = ltb-true _ _ (and_parts _ _ h).1

-- a section with the slot at a is the last one that begins at or below a
slot_is_last : (e : List ℕ) (a first i k : ℕ) → has_numbers e ≡ true
    → i < count_of e → begins e first i ≡ true → first ≤ a
    → ((q : ℕ) → q ≤ a → first < q → first_below (begins e q) (count_of e) ≡ None)
    → k < count_of e → holds_slot a (section e k) ≡ true → k ≡ i
slot_is_last e a first i k none below starts low last within slot =
    let parts = holds_slot_parts a (section e k) slot in
    let own = and_parts (has_bytes (section e i)) _ starts in
    let at : (section e i).addr ≡ first = eqb-true _ _ own.1 in
    let size = laid_size (section e i) (laid_out e i own.0) in
    elim (cases_eq k i) [
      | inl same ↦ same
      | inr differ ↦ elim (cases_lt first (section e k).addr) [
        | inl later ↦ absurd (
            first_below_some (begins e (section e k).addr) (count_of e) k within (and_from _ _ parts.bytes (eq-eqb _ _ refl))
            (last (section e k).addr parts.from later))
        | inr least ↦ elim (sections_apart e k i none within below differ (laid_out e k parts.bytes) (laid_out e i own.0)) [
          | inl before ↦ absurd (omega arith)
          | inr after ↦ absurd (omega arith)
        ]
      ]
    ]

-- so the section of the slot is that one, or none
slot_section-last : (e : List ℕ) (a first i : ℕ) → has_numbers e ≡ true
    → first_below (begins e first) (count_of e) ≡ Some i → first ≤ a
    → ((q : ℕ) → q ≤ a → first < q → first_below (begins e q) (count_of e) ≡ None)
    → slot_section e a ≡ (if holds_slot a (section e i) then Some i else None)
unfolding slot_section
slot_section-last e a first i none found low last =
    let is = first_below_passes (begins e first) (count_of e) i found in
    let only = λ (k : ℕ) (within : k < count_of e) (slot : holds_slot a (section e k) ≡ true). slot_is_last e a first i k none is.0 is.1 low last within slot in
    elim (cases_Bool (holds_slot a (section e i))) [
      | inl holds ↦ rw holds (first_below_only (λ k. holds_slot a (section e k)) (count_of e) i is.0 holds only)
      | inr lacks ↦ rw lacks (first_below_none (λ k. holds_slot a (section e k)) (count_of e) (λ k within. lacking k (only k within) lacks))
    ]
  where
    lacking : (k : ℕ) → (holds_slot a (section e k) ≡ true → k ≡ i) → holds_slot a (section e i) ≡ false → holds_slot a (section e k) ≡ false
    lacking k only lacks = elim (cases_Bool (holds_slot a (section e k))) [
      | inl holds ↦ (let same : holds_slot a (section e k) ≡ holds_slot a (section e i) = ap (λ n. holds_slot a (section e n)) (only holds) in cc)
      | inr not_held ↦ not_held
    ]

-- no section begins at or below the slot, so none has it
slot_section-none : (e : List ℕ) (a : ℕ) → ((q : ℕ) → q ≤ a → first_below (begins e q) (count_of e) ≡ None) → slot_section e a ≡ None
unfolding slot_section
slot_section-none e a nothing = first_below_none (λ k. holds_slot a (section e k)) (count_of e) (λ k within. lacking k within)
  where
    lacking : (k : ℕ) → k < count_of e → holds_slot a (section e k) ≡ false
    lacking k within = elim (cases_Bool (holds_slot a (section e k))) [
      | inl holds ↦ (
          let parts = holds_slot_parts a (section e k) holds in
          absurd (
          first_below_some (begins e (section e k).addr) (count_of e) k within (and_from _ _ parts.bytes (eq-eqb _ _ refl))
          (nothing (section e k).addr parts.from)))
      | inr not_held ↦ not_held
    ]

-- i stands at the last address up to a
abbrev pub IsLast : StoredSections → ℕ → ℕ → Type 0
IsLast s a i =
    (first : ℕ) × (first ≤ a) × (tree.get nat_cmp s.firsts first ≡ Some i) × ((q : ℕ) → q ≤ a → first < q → tree.get nat_cmp s.firsts q ≡ None)

-- what the index says of the section of a slot
pub last-below : (e : List ℕ) (a i : ℕ) (s : StoredSections) → AreStored e s → IsLast s a i → i < count_of e
last-below e a i s stored last = (first_below_passes (begins e last.0) (count_of e) i (sym (stored.firsts last.0) ∙ last.2)).0

pub slot_from_last : (e : List ℕ) (a i : ℕ) (s : StoredSections) → has_numbers e ≡ true → AreStored e s → IsLast s a i
    → slot_section e a ≡ (if holds_slot a (section e i) then Some i else None)
slot_from_last e a i s none stored last =
    slot_section-last e a last.0 i none (sym (stored.firsts last.0) ∙ last.2) last.1 (λ q low behind. sym (stored.firsts q) ∙ last.3 q low behind)

pub slot_from_none : (e : List ℕ) (a : ℕ) (s : StoredSections) → AreStored e s → ((q : ℕ) → q ≤ a → tree.get nat_cmp s.firsts q ≡ None) → slot_section e a ≡ None
slot_from_none e a s stored nothing = slot_section-none e a (λ q low. sym (stored.firsts q) ∙ nothing q low)

-- the section of a slot
pub slot_section_below : (e : List ℕ) (a k : ℕ) → slot_section e a ≡ Some k → k < count_of e
unfolding slot_section
slot_section_below e a k found = (first_below_passes _ _ k found).0

pub slot_section_allocated : (e : List ℕ) (a k : ℕ) → slot_section e a ≡ Some k → is_allocated (section e k) ≡ true
unfolding slot_section holds_slot
slot_section_allocated e a k found =
    (and_parts _ _ (and_parts _ _ (and_parts _ _ (first_below_passes _ _ k found).1).0).0).0

pub slot_section_holds : (e : List ℕ) (a k : ℕ) → slot_section e a ≡ Some k → holds (section e k) a 4 ≡ true
unfolding slot_section holds_slot
slot_section_holds e a k found = (and_parts _ _ (first_below_passes _ _ k found).1).1
