-- What is known of a file without a layout fault: the rows that don't hold; and of one whose bytes have numbers: the sizes of its image.
use Rattle.std.proofs.Common.{◌≡◌, ℕ, ◌+◌, ◌%◌, ◌^◌, ◌<◌, ◌≤◌, List, [], ◌∷◌, Bool, true, false, not, None, refl, ap, arith}
use Rattle.std.proofs.lemmas.Bool.{and_parts, and_from, not-true, not-false, ltb-false}
use Rattle.byte_words.specs.Search.{first}
use Rattle.elf32_reader.specs.Header.{count_of}
use Rattle.elf32_reader.specs.Sections.{section}
use Rattle.flat_layout.specs.declared.fault.LayoutFault.TheVariants.{NoSections, TooLarge, Overlap, Dynamic, Tls, EntryOutside}
use Rattle.flat_layout.specs.Numbering.{is_laid_out, has_bytes, is_written, end_of, lowest, highest, raised_start, distance, start_of}
use Rattle.flat_layout.specs.Layout.{size_of, stored_end, written_from, text_of, layout}
use Rattle.flat_layout.specs.Fault.{has_sections, some_ends_too_high, is_too_large, has_overlap, has_dynamic, has_tls, is_entry_outside, layout_fault}
use Rattle.flat_layout.specs.Rows.{has_numbers}
use Rattle.byte_words.proofs.Searches.{or_parts}
use Rattle.flat_layout.proofs.Bounds.{greatest_at, greatest_le, least_at, least_le_none}

-- no row of the fault table holds
pub record HasNoRow (e : List ℕ) : Type 0 where
  pub sections : has_sections e ≡ true
  pub small : is_too_large e ≡ false
  pub apart : has_overlap e ≡ false
  pub static : has_dynamic e ≡ false
  pub shared : has_tls e ≡ false
  pub entry : is_entry_outside e ≡ false

-- the six rows of the table
no_row : (a b c d f g : Bool) → first ((a, NoSections) ∷ (b, TooLarge) ∷ (c, Overlap) ∷ (d, Dynamic) ∷ (f, Tls) ∷ (g, EntryOutside) ∷ []) ≡ None → (a ≡ false) × (b ≡ false) × (c ≡ false) × (d ≡ false) × (f ≡ false) × (g ≡ false)
no_row true b c d f g h = absurd (cc)
no_row false true c d f g h = absurd (cc)
no_row false false true d f g h = absurd (cc)
no_row false false false true f g h = absurd (cc)
no_row false false false false true g h = absurd (cc)
no_row false false false false false true h = absurd (cc)
no_row false false false false false false h = (refl, refl, refl, refl, refl, refl)

pub has_no_row : (e : List ℕ) → layout_fault e ≡ None → HasNoRow e
unfolding layout_fault
has_no_row e none =
    let rows = no_row (not (has_sections e)) (is_too_large e) (has_overlap e) (has_dynamic e) (has_tls e) (is_entry_outside e) none in
    record { sections = not-false (has_sections e) rows.0; small = rows.1; apart = rows.2; static = rows.3; shared = rows.4; entry = rows.5 }

-- the first three of them don't
pub record HasNumbers (e : List ℕ) : Type 0 where
  pub sections : has_sections e ≡ true
  pub small : is_too_large e ≡ false
  pub apart : has_overlap e ≡ false

pub numbers_of : (e : List ℕ) → has_numbers e ≡ true → HasNumbers e
unfolding has_numbers
numbers_of e is =
    let whole = and_parts _ _ is in
    let first = and_parts _ _ whole.0 in
    record { sections = first.0; small = not-true _ first.1; apart = not-true _ whole.1 }

-- a file without a layout fault has numbers
pub clear_numbers : (e : List ℕ) → layout_fault e ≡ None → has_numbers e ≡ true
unfolding has_numbers
clear_numbers e none =
    let rows = has_no_row e none in
    and_from _ _ (and_from _ _ rows.sections (ap not rows.small)) (ap not rows.apart)

lowest_fits : (e : List ℕ) → lowest e ≤ 2 ^ 32
unfolding lowest
lowest_fits e = least_le_none (λ i. is_laid_out (section e i)) (λ i. (section e i).addr) (2 ^ 32) (count_of e)

-- V0 + 64 is a multiple of 64, from L up to L + 63
pub record IsRaised (e : List ℕ) : Type 0 where
  pub from : lowest e ≤ raised_start e
  pub to : raised_start e ≤ lowest e + 63
  pub multiple : raised_start e % 64 ≡ 0
  pub fits : raised_start e ≤ 2 ^ 32

pub is_raised : (e : List ℕ) → IsRaised e
unfolding raised_start
is_raised e = let low = lowest_fits e in record { from = omega arith; to = omega arith; multiple = omega arith; fits = omega arith }

-- L and H bound each section of the image
pub lowest_at : (e : List ℕ) (i : ℕ) → i < count_of e → is_laid_out (section e i) ≡ true → lowest e ≤ (section e i).addr
unfolding lowest
lowest_at e i h laid = least_at (λ i. is_laid_out (section e i)) (λ i. (section e i).addr) (2 ^ 32) (count_of e) i h laid

pub highest_at : (e : List ℕ) (i : ℕ) → i < count_of e → is_laid_out (section e i) ≡ true → end_of (section e i) ≤ highest e
unfolding highest
highest_at e i h laid = greatest_at (λ i. is_laid_out (section e i)) (λ i. end_of (section e i)) (count_of e) i h laid

-- a section with bytes is a section of the image
pub laid_out : (e : List ℕ) (i : ℕ) → has_bytes (section e i) ≡ true → is_laid_out (section e i) ≡ true
laid_out e i h = (and_parts (is_laid_out (section e i)) _ h).0

pub distance_le : (e : List ℕ) (a b : ℕ) → a ≤ b → distance e a ≤ distance e b
unfolding distance
distance_le e a b h = omega arith

-- the sizes follow each other: W and E, E and the image's end, and that is at most 16 MiB
pub record HasSizes (e : List ℕ) : Type 0 where
  pub written : written_from e ≤ stored_end e
  pub stored : stored_end e ≤ distance e (highest e)
  pub small : distance e (highest e) ≤ 16777216

written_le : (e : List ℕ) → written_from e ≤ stored_end e
unfolding written_from
written_le e = least_le_none (λ i. is_written (section e i)) (λ i. distance e (section e i).addr) (stored_end e) (count_of e)

stored_le : (e : List ℕ) → stored_end e ≤ distance e (highest e)
unfolding stored_end
stored_le e =
    greatest_le (λ i. has_bytes (section e i)) (λ i. distance e (end_of (section e i))) (count_of e) (distance e (highest e))
    (λ k h bytes. distance_le e (end_of (section e k)) (highest e) (highest_at e k h (laid_out e k bytes)))

small_from : (e : List ℕ) → is_too_large e ≡ false → distance e (highest e) ≤ 16777216
unfolding is_too_large
small_from e h = ltb-false 16777216 (distance e (highest e)) (or_parts (some_ends_too_high e) _ h).1

pub has_sizes : (e : List ℕ) → has_numbers e ≡ true → HasSizes e
has_sizes e is = record { written = written_le e; stored = stored_le e; small = small_from e (numbers_of e is).small }

-- T is a multiple of 32, and not above E
pub text-multiple : (e : List ℕ) → (layout e).text % 32 ≡ 0
unfolding layout text_of
text-multiple e = omega arith

pub text_le : (e : List ℕ) → (layout e).text ≤ stored_end e
unfolding layout text_of
text_le e = let written = written_le e in omega arith

-- T + D is E
pub text-data : (e : List ℕ) → (layout e).text + (layout e).data_len ≡ stored_end e
unfolding layout text_of
text-data e = let written = written_le e in omega arith

-- T + D + B is how far the highest end lies behind V0
pub size_of-layout : (e : List ℕ) → size_of (layout e) ≡ distance e (highest e)
unfolding layout text_of
size_of-layout e = let written = written_le e in let stored = stored_le e in omega arith

-- an image has at most 16 MiB
pub size_le : (e : List ℕ) → has_numbers e ≡ true → size_of (layout e) ≤ 16777216
size_le e is = let size = size_of-layout e in let sizes = has_sizes e is in omega arith

-- V0 modulo 2^32 is a number of 32 bits
pub start_fits : (e : List ℕ) → (layout e).v0 < 2 ^ 32
unfolding layout start_of
start_fits e = omega arith
