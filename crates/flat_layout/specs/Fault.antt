-- The first reason why the sections of an ELF file make no image. Flags and types: System V ABI, ELF32, "Sections".
use Rattle.std.specs.Prelude.{ℕ, ◌+◌, ◌%◌, ◌^◌, Bool, not, ◌&&◌, ◌||◌, nat_lt, nat_le, ◌==◌, List, [], ◌∷◌, Option}
use Rattle.std.specs.Int.Bits.{bit_and}
use Rattle.elf32_reader.specs.declared.section.Section.{Section}
use Rattle.byte_words.specs.Search.{any_below, first}
use Rattle.elf32_reader.specs.Header.{count_of, entry_of}
use Rattle.elf32_reader.specs.Sections.{section}
use Rattle.flat_layout.specs.declared.fault.LayoutFault.{LayoutFault}
use Rattle.flat_layout.specs.declared.fault.LayoutFault.TheVariants.{NoSections, TooLarge, Overlap, Dynamic, Tls, EntryOutside}
use Rattle.flat_layout.specs.Numbering.{is_laid_out, has_bytes, is_executable, end_of, highest, distance}

unfoldable pub has_sections : List ℕ → Bool
has_sections e = any_below (λ i. is_laid_out (section e i)) (count_of e)

-- a section ends above 2^32
abbrev pub ends_too_high : Section → Bool
ends_too_high s = is_laid_out s && nat_lt (2 ^ 32) (end_of s)

unfoldable pub some_ends_too_high : List ℕ → Bool
some_ends_too_high e = any_below (λ i. ends_too_high (section e i)) (count_of e)

-- a section ends above 2^32, or the image has more than 16 MiB
unfoldable pub is_too_large : List ℕ → Bool
is_too_large e = some_ends_too_high e || nat_lt 16777216 (distance e (highest e))

-- the two have a common byte
abbrev pub meets : Section → Section → Bool
meets s t = is_laid_out s && is_laid_out t && nat_lt s.addr (end_of t) && nat_lt t.addr (end_of s)

-- a section before section i meets it
unfoldable pub meets_below : List ℕ → ℕ → Bool
meets_below e i = any_below (λ j. meets (section e j) (section e i)) i

unfoldable pub has_overlap : List ℕ → Bool
has_overlap e = any_below (meets_below e) (count_of e)

-- SHT_DYNAMIC (6), SHT_DYNSYM (11), SHT_RELA (4) or SHT_REL (9): a file for a dynamic linker
abbrev pub is_dynamic : Section → Bool
is_dynamic s = is_laid_out s && (s.kind == 6 || s.kind == 11 || s.kind == 4 || s.kind == 9)

unfoldable pub has_dynamic : List ℕ → Bool
has_dynamic e = any_below (λ i. is_dynamic (section e i)) (count_of e)

-- SHF_TLS (0x400)
abbrev pub is_tls : Section → Bool
is_tls s = is_laid_out s && not (bit_and s.flags 0x400 == 0)

unfoldable pub has_tls : List ℕ → Bool
has_tls e = any_below (λ i. is_tls (section e i)) (count_of e)

-- the four bytes at an address are stored code
abbrev pub holds_code : ℕ → Section → Bool
holds_code a s = has_bytes s && is_executable s && nat_le s.addr a && nat_le (a + 4) (end_of s)

unfoldable pub is_entry_outside : List ℕ → Bool
is_entry_outside e = not (entry_of e % 4 == 0) || not (any_below (λ i. holds_code (entry_of e) (section e i)) (count_of e))

unfoldable pub layout_fault : List ℕ → Option LayoutFault
layout_fault e = first (
    (not (has_sections e), NoSections)
    ∷ (is_too_large e, TooLarge)
    ∷ (has_overlap e, Overlap)
    ∷ (has_dynamic e, Dynamic)
    ∷ (has_tls e, Tls)
    ∷ (is_entry_outside e, EntryOutside)
    ∷ [])
