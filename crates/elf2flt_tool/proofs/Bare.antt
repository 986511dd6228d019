-- The linked bytes by number: a section's bytes, and zeros behind them all.
use Rattle.std.proofs.Common.{◌≡◌, ℕ, ◌+◌, ◌-◌, ◌<◌, ◌≤◌, inl, inr, true, false, List, [], ◌∷◌, length, map, take, drop, slice_index, None, refl, ap, sym, ◌∙◌, arith, get_or-drop, get_or-take, length-take, length-drop}
use Rattle.std.specs.List.{range_with_len}
use Rattle.std.proofs.lemmas.List.{get_or_past}
use Rattle.std.proofs.lemmas.Bool.{and_parts, cases_Bool, cases_lt, false_from_ne_true}
use Rattle.elf32_reader.specs.declared.section.Section.{Section}
use Rattle.elf32_reader.specs.Numbers.{u32_at}
use Rattle.elf32_reader.specs.Header.{count_of}
use Rattle.elf32_reader.specs.Sections.{section, content}
use Rattle.elf32_reader.specs.Faults.{elf_fault}
use Rattle.elf32_reader.proofs.Facts.{stored_fits}
use Rattle.byte_words.specs.Patches.{spans, patched, painted}
use Rattle.byte_words.specs.Numbers.{IsBytes}
use Rattle.byte_words.proofs.Painting.{within, spans_within, patched_on, patched_off}
use Rattle.bflt_format.proofs.Links.{word_at, word_none}
use Rattle.flat_layout.specs.Numbering.{is_laid_out, has_bytes}
use Rattle.flat_layout.specs.Layout.{layout, off, stored_end}
use Rattle.elf2flt_tool.specs.Image.{section_patch, bare, word_of}
use Rattle.elf2flt_tool.proofs.Members.{has-range, range_has}
use Rattle.elf2flt_tool.proofs.Laid.{IsLaid}
use Rattle.byte_words.specs.Numbers.{number_at}

-- the byte at n is one of section i's
pub record IsOf (e : List ℕ) (i n : ℕ) : Type 0 where
  pub bytes : has_bytes (section e i) ≡ true
  pub from : off (layout e) (section e i).addr ≤ n
  pub to : n < off (layout e) (section e i).addr + (section e i).size

patch_bytes : (e : List ℕ) (i : ℕ) → has_bytes (section e i) ≡ true → (section_patch e i).bytes ≡ content e (section e i)
unfolding section_patch
patch_bytes e i bytes = rw bytes refl

patch_empty : (e : List ℕ) (i : ℕ) → has_bytes (section e i) ≡ false → length (section_patch e i).bytes ≡ 0
unfolding section_patch
patch_empty e i none = rw none refl

patch_at : (e : List ℕ) (i : ℕ) → (section_patch e i).at ≡ off (layout e) (section e i).addr
unfolding section_patch
patch_at e i = refl

content_within : (e : List ℕ) (s : Section) → length (content e s) ≤ s.size
unfolding content
content_within e s = omega (arith, length-take s.size (drop s.offset e))

content_length : (e : List ℕ) (i : ℕ) → elf_fault e ≡ None → i < count_of e → has_bytes (section e i) ≡ true → length (content e (section e i)) ≡ (section e i).size
unfolding content
content_length e i clear below bytes =
    let parts = and_parts (is_laid_out (section e i)) _ bytes in
    let laid = and_parts _ _ parts.0 in
    let fits = stored_fits e i clear below laid.0 parts.1 in
    omega (arith, fits, length-take (section e i).size (drop (section e i).offset e), length-drop (section e i).offset e)

-- where a section's patch has a byte, and the other way round
pub is_of : (e : List ℕ) (i n : ℕ) → spans (section_patch e i) n ≡ true → IsOf e i n
is_of e i n is =
    let there = within (section_patch e i) n is in
    let low = there.from in
    let high = there.to in
    let place = patch_at e i in
    elim (cases_Bool (has_bytes (section e i))) [
      | inl bytes ↦
          let len = ap length (patch_bytes e i bytes) in
          let most = content_within e (section e i) in
          record { bytes = bytes; from = omega arith; to = omega arith }
      | inr none ↦ let len = patch_empty e i none in absurd (omega arith)
    ]

spans_of : (e : List ℕ) (i n : ℕ) → elf_fault e ≡ None → i < count_of e → IsOf e i n → spans (section_patch e i) n ≡ true
spans_of e i n clear below here =
    let place = patch_at e i in
    let len = ap length (patch_bytes e i here.bytes) ∙ content_length e i clear below here.bytes in
    let low = here.from in
    let high = here.to in
    spans_within (section_patch e i) n (record { from = omega arith; to = omega arith })

patch_byte : (e : List ℕ) (i k : ℕ) → has_bytes (section e i) ≡ true → k < (section e i).size
    → slice_index (section_patch e i).bytes (off (layout e) (section e i).addr + k - (section_patch e i).at) ≡ slice_index e ((section e i).offset + k)
unfolding section_patch content
patch_byte e i k bytes small =
    let place : off (layout e) (section e i).addr + k - off (layout e) (section e i).addr ≡ k = omega arith in
    rw (bytes, place) (get_or-take (section e i).size (drop (section e i).offset e) k 0 small ∙ get_or-drop (section e i).offset e k 0)

-- no two sections have a byte at one number
only_section : (e : List ℕ) (i j n : ℕ) → IsLaid e → i < count_of e → j < count_of e → IsOf e i n → IsOf e j n → j ≡ i
only_section e i j n laid i_below j_below here there =
    let here_from = here.from in
    let here_to = here.to in
    let there_from = there.from in
    let there_to = there.to in
    elim (laid.apart i j i_below j_below here.bytes there.bytes) [
      | inl same ↦ sym same
      | inr far ↦ elim far [ inl before ↦ absurd (omega arith) | inr after ↦ absurd (omega arith) ]
    ]

-- the byte of the only section there
pub bare_of : (e : List ℕ) (i n : ℕ) → elf_fault e ≡ None → IsLaid e → i < count_of e → IsOf e i n → bare e n ≡ slice_index (content e (section e i)) (n - off (layout e) (section e i).addr)
unfolding bare
bare_of e i n clear laid below here =
    word_at (section_patch e) (range_with_len 0 (count_of e)) (λ n. 0) n i
    (has-range 0 (count_of e) i (omega arith) (omega arith)) (spans_of e i _ clear below here)
    (λ j member on. only_section e i j _ laid below (omega (arith, range_has 0 (count_of e) j member)) here (is_of e j _ on))
    ∙ ap (λ bytes. slice_index bytes (n - (section_patch e i).at)) (patch_bytes e i here.bytes)
    ∙ ap (λ at. slice_index (content e (section e i)) (n - at)) (patch_at e i)

-- zero where no section is
pub bare_none : (e : List ℕ) (n : ℕ) → ((i : ℕ) → i < count_of e → spans (section_patch e i) n ≡ false) → bare e n ≡ 0
unfolding bare
bare_none e n none = word_none (section_patch e) (range_with_len 0 (count_of e)) (λ n. 0) n (λ j member. none j (omega (arith, range_has 0 (count_of e) j member)))

take_fits : (n : ℕ) (ys : List ℕ) → ((k : ℕ) → slice_index ys k < 256) → (k : ℕ) → slice_index (take n ys) k < 256
take_fits n ys bytes k = elim (cases_lt k n) [
  | inl below ↦ rw (get_or-take n ys k 0 below) (bytes k)
  | inr past ↦ rw (get_or_past (take n ys) k 0 (omega (arith, length-take n ys))) (omega arith)
]

content_fits_bytes : (e : List ℕ) (s : Section) → IsBytes e → (k : ℕ) → slice_index (content e s) k < 256
unfolding content
content_fits_bytes e s bytes k = take_fits s.size (drop s.offset e) (λ k. rw (get_or-drop s.offset e k 0) (bytes (s.offset + k))) k

patch_fits : (e : List ℕ) (i k : ℕ) → IsBytes e → slice_index (section_patch e i).bytes k < 256
unfolding section_patch
patch_fits e i k bytes = elim (cases_Bool (has_bytes (section e i))) [
  | inl is ↦ rw is (content_fits_bytes e (section e i) bytes k)
  | inr none ↦ rw none (omega arith)
]

patched_fits : (e : List ℕ) (i : ℕ) (m : ℕ → ℕ) → IsBytes e → ((n : ℕ) → m n < 256) → (n : ℕ) → patched (section_patch e i) m n < 256
patched_fits e i m bytes fits n = elim (cases_Bool (spans (section_patch e i) n)) [
  | inl on ↦ rw (patched_on (section_patch e i) m n on) (patch_fits e i (n - (section_patch e i).at) bytes)
  | inr out ↦ rw (patched_off (section_patch e i) m n out) (fits n)
]

painted_fits : (e : List ℕ) (is : List ℕ) (m : ℕ → ℕ) → IsBytes e → ((n : ℕ) → m n < 256) → (n : ℕ) → painted (map (section_patch e) is) m n < 256
painted_fits e [] m bytes fits n = fits n
painted_fits e (i ∷ is) m bytes fits n = painted_fits e is (patched (section_patch e i) m) bytes (patched_fits e i m bytes fits) n

-- a section's byte stands at its number
pub bare_byte : (e : List ℕ) (i k : ℕ) → elf_fault e ≡ None → IsLaid e → i < count_of e → has_bytes (section e i) ≡ true → k < (section e i).size
    → bare e (off (layout e) (section e i).addr + k) ≡ slice_index e ((section e i).offset + k)
unfolding bare
bare_byte e i k clear laid below bytes small =
    let here : IsOf e i (off (layout e) (section e i).addr + k) = record { bytes = bytes; from = omega arith; to = omega arith } in
    word_at (section_patch e) (range_with_len 0 (count_of e)) (λ n. 0) (off (layout e) (section e i).addr + k) i
    (has-range 0 (count_of e) i (omega arith) (omega arith)) (spans_of e i _ clear below here)
    (λ j member on. only_section e i j _ laid below (omega (arith, range_has 0 (count_of e) j member)) here (is_of e j _ on))
    ∙ patch_byte e i k bytes small

-- behind the stored bytes stand zeros
pub bare_zero : (e : List ℕ) → IsLaid e → (n : ℕ) → stored_end e ≤ n → bare e n ≡ 0
unfolding bare
bare_zero e laid n past =
    word_none (section_patch e) (range_with_len 0 (count_of e)) (λ n. 0) n (λ j member. false_from_ne_true (spans (section_patch e j) n) (λ on.
    let there = is_of e j n on in
    let to = there.to in
    let inside = laid.inside j (omega (arith, range_has 0 (count_of e) j member)) there.bytes in
    omega arith))

-- the linked bytes of a list of bytes are bytes
pub bare_fits : (e : List ℕ) → IsBytes e → (n : ℕ) → bare e n < 256
unfolding bare
bare_fits e bytes n = painted_fits e (range_with_len 0 (count_of e)) (λ n. 0) bytes (λ n. omega arith) n

-- the number of four bytes that a list and a picture have in common
pub number_of_word : (m : ℕ → ℕ) (y : List ℕ) (p q : ℕ) → ((j : ℕ) → j < 4 → m (p + j) ≡ slice_index y (q + j)) → word_of m p ≡ u32_at y q
unfolding number_at word_of
number_of_word m y p q same =
    let first : m p ≡ slice_index y (q + 0) = let place : p + 0 ≡ p = omega arith in rw place at (same 0 (omega arith)) in
    let second = same 1 (omega arith) in
    let third = same 2 (omega arith) in
    let fourth = same 3 (omega arith) in
    rw (get_or-drop q y 0 0, get_or-drop q y 1 0, get_or-drop q y 2 0, get_or-drop q y 3 0) (omega arith)

-- a section's word stands at its number
pub bare_word : (e : List ℕ) (i k : ℕ) → elf_fault e ≡ None → IsLaid e → i < count_of e → has_bytes (section e i) ≡ true → k + 4 ≤ (section e i).size
    → word_of (bare e) (off (layout e) (section e i).addr + k) ≡ u32_at e ((section e i).offset + k)
bare_word e i k clear laid below bytes fits =
    number_of_word (bare e) e (off (layout e) (section e i).addr + k) ((section e i).offset + k) (λ j small.
    let here = bare_byte e i (k + j) clear laid below bytes (omega arith) in
    let at : off (layout e) (section e i).addr + k + j ≡ off (layout e) (section e i).addr + (k + j) = omega arith in
    let from : (section e i).offset + k + j ≡ (section e i).offset + (k + j) = omega arith in
    rw (at, from) here)
