-- Where a word stands in a section's content, and so in the file.
use Rattle.std.proofs.Common.{◌≡◌, ℕ, ◌+◌, ◌-◌, ◌≤◌, true, List, length, take, drop, sym, ap, ◌∙◌, arith, leb-true, length-take, length-drop, take-append-drop, drop-drop}
use Rattle.std.proofs.lemmas.Bool.{and_parts}
use Rattle.std.proofs.lemmas.List.{drop-take}
use Rattle.byteorder.specs.Endian.{little_number}
use Rattle.byteorder.specs.Numbers.{little_from-append}
use Rattle.elf32_reader.specs.declared.section.Section.{Section}
use Rattle.elf32_reader.specs.Numbers.{u32_at}
use Rattle.elf32_reader.specs.Sections.{content, is_stored}
use Rattle.psabi_relocs.specs.Bytes.{holds}
use Rattle.byte_words.specs.Numbers.{low_first, number_at}

-- what the test says
pub record Holds (s : Section) (a n : ℕ) : Type 0 where
  pub stored : is_stored s ≡ true
  pub from : s.addr ≤ a
  pub to : a + n ≤ s.addr + s.size

pub holds_parts : (s : Section) (a n : ℕ) → holds s a n ≡ true → Holds s a n
holds_parts s a n h =
    let last = and_parts _ _ h in
    let start = and_parts _ _ last.0 in
    record { stored = start.0; from = leb-true _ _ start.1; to = leb-true _ _ last.1 }

-- a number reads only its own bytes
number-take : (n m : ℕ) (xs : List ℕ) → n ≤ m → m ≤ length xs → little_number n (take m xs) ≡ little_number n xs
number-take n m xs few fits =
    let long : n ≤ length (take m xs) = rw length-take (omega arith) in
    sym (little_from-append n (take m xs) (drop m xs) long) ∙ ap (little_number n) (take-append-drop m xs)

-- the word at a place of the content is the file's
pub number-content : (e : List ℕ) (s : Section) (k : ℕ) → s.offset + s.size ≤ length e → k + 4 ≤ s.size
    → number_at low_first 4 (content e s) k ≡ u32_at e (s.offset + k)
unfolding content number_at
number-content e s k fits inside =
    let m = s.size - k in
    let parts : s.size ≡ k + m = omega arith in
    let long : m ≤ length (drop (s.offset + k) e) = omega (arith, length-drop (s.offset + k) e) in
    rw (parts, drop-take, drop-drop) (number-take 4 m (drop (s.offset + k) e) (omega arith) long)
