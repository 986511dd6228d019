-- What is known of the layout of a file whose bytes have numbers, in one record over numbers.
use Rattle.std.proofs.Common.{◌≡◌, ℕ, ◌+◌, ◌%◌, ◌^◌, ◌<◌, ◌≤◌, ◌⊎◌, inl, inr, true, List, arith}
use Rattle.std.proofs.lemmas.Bool.{cases_eq}
use Rattle.elf32_reader.specs.Header.{count_of}
use Rattle.elf32_reader.specs.Sections.{section}
use Rattle.flat_layout.specs.Numbering.{has_bytes, distance}
use Rattle.flat_layout.specs.Layout.{layout, off, size_of, stored_end}
use Rattle.flat_layout.specs.Rows.{has_numbers}
use Rattle.flat_layout.proofs.Facts.{has_sizes, laid_out, text-multiple, text-data, size_of-layout, size_le, start_fits}
use Rattle.flat_layout.proofs.Numbers.{is_numbered, stored_inside, off-inside, numbers_apart}

-- the numbers of two sections: one ends before the other begins
abbrev pub AreApart : List ℕ → ℕ → ℕ → Type 0
AreApart e i j =
    (off (layout e) (section e i).addr + (section e i).size ≤ off (layout e) (section e j).addr)
    ⊎ (off (layout e) (section e j).addr + (section e j).size ≤ off (layout e) (section e i).addr)

pub record IsLaid (e : List ℕ) : Type 0 where
  pub text : (layout e).text % 32 ≡ 0
  pub stored : (layout e).text + (layout e).data_len ≡ stored_end e
  pub fits : stored_end e ≤ size_of (layout e)
  pub small : size_of (layout e) ≤ 16777216
  pub along : (i k : ℕ) → i < count_of e → has_bytes (section e i) ≡ true → k < (section e i).size
      → off (layout e) ((section e i).addr + k) ≡ off (layout e) (section e i).addr + k
  pub inside : (i : ℕ) → i < count_of e → has_bytes (section e i) ≡ true → off (layout e) (section e i).addr + (section e i).size ≤ stored_end e
  pub apart : (i j : ℕ) → i < count_of e → j < count_of e → has_bytes (section e i) ≡ true → has_bytes (section e j) ≡ true → (i ≡ j) ⊎ AreApart e i j
  pub start : (layout e).v0 < 2 ^ 32

number : (e : List ℕ) (i : ℕ) → has_numbers e ≡ true → i < count_of e → has_bytes (section e i) ≡ true → off (layout e) (section e i).addr ≡ distance e (section e i).addr
number e i none below bytes = (is_numbered e i none below (laid_out e i bytes)).number

number_along : (e : List ℕ) (i k : ℕ) → has_numbers e ≡ true → i < count_of e → has_bytes (section e i) ≡ true → k < (section e i).size
    → off (layout e) ((section e i).addr + k) ≡ off (layout e) (section e i).addr + k
number_along e i k none below bytes small =
    let here = number e i none below bytes in
    let there = off-inside e i ((section e i).addr + k) none below (laid_out e i bytes) (omega arith) (omega arith) in
    omega arith

number_inside : (e : List ℕ) (i : ℕ) → has_numbers e ≡ true → i < count_of e → has_bytes (section e i) ≡ true → off (layout e) (section e i).addr + (section e i).size ≤ stored_end e
number_inside e i none below bytes =
    let here = number e i none below bytes in
    let inside = stored_inside e i none below bytes in
    omega arith

sections_by_number : (e : List ℕ) (i j : ℕ) → has_numbers e ≡ true → i < count_of e → j < count_of e → has_bytes (section e i) ≡ true → has_bytes (section e j) ≡ true → (i ≡ j) ⊎ AreApart e i j
sections_by_number e i j none i_below j_below i_bytes j_bytes =
    let here = number e i none i_below i_bytes in
    let there = number e j none j_below j_bytes in
    elim (cases_eq i j) [
      | inl same ↦ inl same
      | inr other ↦ inr (elim (numbers_apart e i j none i_below j_below other (laid_out e i i_bytes) (laid_out e j j_bytes)) [
        | inl before ↦ inl (omega arith)
        | inr after ↦ inr (omega arith)
      ])
    ]

pub is_laid : (e : List ℕ) → has_numbers e ≡ true → IsLaid e
is_laid e none =
    let sizes = has_sizes e none in
    let size = size_of-layout e in
    let stored = text-data e in
    record {
      text = text-multiple e;
      stored = stored;
      fits = omega arith;
      small = size_le e none;
      along = λ i k below bytes small. number_along e i k none below bytes small;
      inside = λ i below bytes. number_inside e i none below bytes;
      apart = λ i j i_below j_below i_bytes j_bytes. sections_by_number e i j none i_below j_below i_bytes j_bytes;
      start = start_fits e;
    }
