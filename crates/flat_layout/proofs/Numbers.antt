-- The numbers of the bytes of a file.
use Rattle.std.proofs.Common.{◌≡◌, ℕ, ◌+◌, ◌-◌, ◌%◌, ◌^◌, ◌<◌, ◌≤◌, ◌≢◌, ◌⊎◌, List, true, false, not, ◌&&◌, None, refl, sym, ◌∙◌, arith, inl, inr, nat_lt, nat_le, nat_eq}
use Rattle.std.proofs.lemmas.Bool.{and_parts, and_from, and_cases, not-false, ltb-false, leb-true, eqb-true, cases_lt}
use Rattle.elf32_reader.specs.declared.section.Section.{Section}
use Rattle.byte_words.specs.Search.{any_below}
use Rattle.elf32_reader.specs.Header.{count_of, entry_of}
use Rattle.elf32_reader.specs.Sections.{section}
use Rattle.byte_words.proofs.Searches.{or_parts, and_rest, any_below_none, any_below_some}
use Rattle.flat_layout.specs.declared.layout.Layout.{Layout}
use Rattle.flat_layout.specs.Numbering.{is_laid_out, has_bytes, is_executable, end_of, lowest, highest, distance, start_of}
use Rattle.flat_layout.specs.Layout.{off, size_of, stored_end, layout}
use Rattle.flat_layout.specs.Fault.{meets, meets_below, has_overlap, holds_code, is_entry_outside, layout_fault}
use Rattle.flat_layout.specs.Rows.{has_numbers}
use Rattle.flat_layout.proofs.Bounds.{greatest_at}
use Rattle.flat_layout.proofs.Facts.{has_no_row, numbers_of, clear_numbers, has_sizes, is_raised, lowest_at, highest_at, laid_out, text-data, size_of-layout}

-- any number of an address has 32 bits
pub off_fits : (l : Layout) (a : ℕ) → off l a < 2 ^ 32
unfolding off
off_fits l a = omega arith

-- the shift from linked addresses to those of an image at b is the number of b: a + off b and b + off a are one address
pub off-shift : (l : Layout) (a b : ℕ) → l.v0 < 2 ^ 32 → (a + off l b) % 2 ^ 32 ≡ (b + off l a) % 2 ^ 32
unfolding off
off-shift l a b h = omega arith

-- from L to H the number of an address is its distance from V0
-- up to H the distance from V0 is small
distance_small : (e : List ℕ) (a : ℕ) → has_numbers e ≡ true → a ≤ highest e → distance e a ≤ 16777216
unfolding distance
distance_small e a none high = let sizes = has_sizes e none in omega arith

-- from L to H the number of an address is its distance from V0
pub off-distance : (e : List ℕ) (a : ℕ) → has_numbers e ≡ true → lowest e ≤ a → a ≤ highest e → off (layout e) a ≡ distance e a
unfolding off layout start_of distance
off-distance e a none low high =
    let raised = is_raised e in
    let small = distance_small e a none high in
    omega arith

-- the numbers of a section of the image
pub record IsNumbered (e : List ℕ) (s : Section) : Type 0 where
  pub number : off (layout e) s.addr ≡ distance e s.addr
  pub above : 0 < distance e s.addr
  pub inside : distance e s.addr + s.size ≤ size_of (layout e)

pub is_numbered : (e : List ℕ) (i : ℕ) → has_numbers e ≡ true → i < count_of e → is_laid_out (section e i) ≡ true → IsNumbered e (section e i)
unfolding distance
is_numbered e i none h laid =
    let low = lowest_at e i h laid in
    let high = highest_at e i h laid in
    let raised = is_raised e in
    let size = size_of-layout e in
    record {
      number = off-distance e (section e i).addr none low (omega arith);
      above = omega arith;
      inside = omega arith;
    }

-- the numbers of a section whose bytes stand in the file are below E, which is T + D
pub stored_inside : (e : List ℕ) (i : ℕ) → has_numbers e ≡ true → i < count_of e → has_bytes (section e i) ≡ true → distance e (section e i).addr + (section e i).size ≤ stored_end e
unfolding stored_end distance
stored_inside e i none h bytes =
    let low = lowest_at e i h (laid_out e i bytes) in
    let raised = is_raised e in
    let most = greatest_at (λ i. has_bytes (section e i)) (λ i. distance e (end_of (section e i))) (count_of e) i h bytes in
    omega arith

-- the number of an address of a section, or of its end
pub off-inside : (e : List ℕ) (i a : ℕ) → has_numbers e ≡ true → i < count_of e → is_laid_out (section e i) ≡ true → (section e i).addr ≤ a → a ≤ end_of (section e i) → off (layout e) a ≡ distance e (section e i).addr + (a - (section e i).addr)
unfolding distance
off-inside e i a none h laid from to =
    let low = lowest_at e i h laid in
    let high = highest_at e i h laid in
    let raised = is_raised e in
    let number = off-distance e a none (omega arith) (omega arith) in
    omega arith

-- one of two sections that do not meet ends before the other begins
apart_of : (s t : Section) → is_laid_out s ≡ true → is_laid_out t ≡ true → meets s t ≡ false → (end_of s ≤ t.addr) ⊎ (end_of t ≤ s.addr)
apart_of s t laid other h =
    elim (and_cases (is_laid_out s && is_laid_out t && nat_lt s.addr (end_of t)) (nat_lt t.addr (end_of s)) h) [
      | inl begins ↦ inr (ltb-false s.addr (end_of t) (and_rest (is_laid_out s && is_laid_out t) (nat_lt s.addr (end_of t)) begins (and_from _ _ laid other)))
      | inr ends ↦ inl (ltb-false t.addr (end_of s) ends)
    ]

earlier_apart : (e : List ℕ) (i j : ℕ) → has_overlap e ≡ false → i < j → j < count_of e → meets (section e i) (section e j) ≡ false
unfolding has_overlap meets_below
earlier_apart e i j none before h =
    any_below_none (λ k. meets (section e k) (section e j)) j i (any_below_none (meets_below e) (count_of e) j none h) before

-- of two sections of the image one ends before the other begins
pub sections_apart : (e : List ℕ) (i j : ℕ) → has_numbers e ≡ true → i < count_of e → j < count_of e → i ≢ j → is_laid_out (section e i) ≡ true → is_laid_out (section e j) ≡ true → (end_of (section e i) ≤ (section e j).addr) ⊎ (end_of (section e j) ≤ (section e i).addr)
sections_apart e i j none hi hj differ laid other =
    elim (cases_lt i j) [
      | inl before ↦ apart_of (section e i) (section e j) laid other (earlier_apart e i j (numbers_of e none).apart before hj)
      | inr not_before ↦ swapped (apart_of (section e j) (section e i) other laid (earlier_apart e j i (numbers_of e none).apart (omega arith) hi))
    ]
  where
    swapped : {P Q : Type 0} → P ⊎ Q → Q ⊎ P
    swapped (inl p) = inr p
    swapped (inr q) = inl q

-- and so do their numbers
pub numbers_apart : (e : List ℕ) (i j : ℕ) → has_numbers e ≡ true → i < count_of e → j < count_of e → i ≢ j → is_laid_out (section e i) ≡ true → is_laid_out (section e j) ≡ true → (distance e (section e i).addr + (section e i).size ≤ distance e (section e j).addr) ⊎ (distance e (section e j).addr + (section e j).size ≤ distance e (section e i).addr)
unfolding distance
numbers_apart e i j none hi hj differ laid other =
    let low = lowest_at e i hi laid in
    let low_other = lowest_at e j hj other in
    let raised = is_raised e in
    elim (sections_apart e i j none hi hj differ laid other) [ inl before ↦ inl (omega arith) | inr after ↦ inr (omega arith) ]

-- the parts of a section that holds the four bytes at a
record HoldsCode (a : ℕ) (s : Section) : Type 0 where
  bytes : has_bytes s ≡ true
  from : s.addr ≤ a
  to : a + 4 ≤ end_of s

holds_code_parts : (a : ℕ) (s : Section) → holds_code a s ≡ true → HoldsCode a s
holds_code_parts a s h =
    let ends = and_parts (has_bytes s && is_executable s && nat_le s.addr a) (nat_le (a + 4) (end_of s)) h in
    let begins = and_parts (has_bytes s && is_executable s) (nat_le s.addr a) ends.0 in
    let stored = and_parts (has_bytes s) (is_executable s) begins.0 in
    record { bytes = stored.0; from = leb-true s.addr a begins.1; to = leb-true (a + 4) (end_of s) ends.1 }

-- where the program begins: a whole instruction of stored code
pub record HasEntry (e : List ℕ) : Type 0 where
  pub number : (layout e).entry ≡ distance e (entry_of e)
  pub off : off (layout e) (entry_of e) ≡ (layout e).entry
  pub aligned : (layout e).entry % 4 ≡ 0
  pub above : 0 < (layout e).entry
  pub inside : (layout e).entry + 4 ≤ (layout e).text + (layout e).data_len

-- the section of the entry
entry_section : (e : List ℕ) → is_entry_outside e ≡ false → (entry_of e % 4 ≡ 0) × ((i : ℕ) × ((i < count_of e) × (holds_code (entry_of e) (section e i) ≡ true)))
unfolding is_entry_outside
entry_section e inside =
    let parts = or_parts (not (nat_eq (entry_of e % 4) 0)) (not (any_below (λ i. holds_code (entry_of e) (section e i)) (count_of e))) inside in
    (eqb-true (entry_of e % 4) 0 (not-false _ parts.0), any_below_some (λ i. holds_code (entry_of e) (section e i)) (count_of e) (not-false _ parts.1))

entry_number : (e : List ℕ) → off (layout e) (entry_of e) ≡ (layout e).entry
unfolding off layout
entry_number e = refl

has_entry_at : (e : List ℕ) (i : ℕ) → layout_fault e ≡ None → entry_of e % 4 ≡ 0 → i < count_of e → holds_code (entry_of e) (section e i) ≡ true → HasEntry e
unfolding distance
has_entry_at e i none aligned h holds =
    let code = holds_code_parts (entry_of e) (section e i) holds in
    let laid = laid_out e i code.bytes in
    let low = lowest_at e i h laid in
    let high = highest_at e i h laid in
    let raised = is_raised e in
    let number = off-distance e (entry_of e) (clear_numbers e none) (omega arith) (omega arith) in
    let off_is = entry_number e in
    let stored = stored_inside e i (clear_numbers e none) h code.bytes in
    let end = text-data e in
    record { number = sym off_is ∙ number; off = off_is; aligned = omega arith; above = omega arith; inside = omega arith }

pub has_entry : (e : List ℕ) → layout_fault e ≡ None → HasEntry e
has_entry e none =
    let found = entry_section e (has_no_row e none).entry in
    has_entry_at e found.1.0 none found.0 found.1.1.0 found.1.1.1
