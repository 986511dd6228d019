-- The rows of the fault table of each section by itself, and what the first three of them leave: numbers for the bytes.
use Rattle.std.specs.Prelude.{ℕ, Bool, not, ◌&&◌, ◌==◌, List, if◌then◌else◌}
use Rattle.byte_words.specs.Search.{any_below}
use Rattle.elf32_reader.specs.Sections.{section}
use Rattle.flat_layout.specs.Numbering.{is_laid_out, end_of, highest}
use Rattle.flat_layout.specs.Fault.{has_sections, ends_too_high, some_ends_too_high, is_too_large, meets_below, has_overlap, is_dynamic, is_tls}

-- no row up to 3 holds: the bytes of the sections have numbers
unfoldable pub has_numbers : List ℕ → Bool
has_numbers e = has_sections e && not (is_too_large e) && not (has_overlap e)

-- section i ends at H, where the image ends
abbrev pub ends_image : List ℕ → ℕ → Bool
ends_image e i = is_laid_out (section e i) && end_of (section e i) == highest e

-- the sections for which the image is too large: those that end above 2^32, or where none does the first one that ends the image
unfoldable pub is_too_high : List ℕ → ℕ → Bool
is_too_high e i =
    if some_ends_too_high e then ends_too_high (section e i)
    else ends_image e i && is_too_large e && not (any_below (ends_image e) i)

-- row 2, TooLarge, row 3, Overlap, row 4, Dynamic, or row 5, Tls, holds of section i
unfoldable pub row_holds : ℕ → List ℕ → ℕ → Bool
row_holds row e i =
    if row == 2 then is_too_high e i
    else if row == 3 then meets_below e i
    else if row == 4 then is_dynamic (section e i)
    else is_tls (section e i)
