-- What the faults of a file's layout speak of lies in the file.
use Rattle.std.proofs.Common.{◌≡◌, ℕ, ◌+◌, ◌<◌, Bool, true, false, List, [], ◌∷◌, ◌++◌, map, Option, Some, None, if◌then◌else◌, refl, arith}
use Rattle.std.specs.List.{range_with_len, AllByRecursion as Each}
use Rattle.elf32_reader.specs.Header.{count_of}
use Rattle.flat_layout.specs.declared.fault.LayoutFault.TheVariants.{NoSections, TooLarge, Dynamic, Tls, EntryOutside}
use Rattle.flat_layout.specs.Fault.{has_sections, is_entry_outside}
use Rattle.flat_layout.specs.Rows.{row_holds}
use Rattle.psabi_relocs.specs.Search.{first_below}
use Rattle.psabi_relocs.proofs.IndexSearches.{first_below_passes}
use Rattle.elf2flt_tool.specs.declared.fault.Fault.{Fault}
use Rattle.elf2flt_tool.specs.Faults.{layout_in, found_or_0, overlap_in, sections_with, rows_faults, layout_faults}
use Rattle.elf2flt_tool.proofs.Members.{each-append, each-map, each-range, each-weaker}
use Rattle.fault_texts.specs.InFile.{IsOfRead}
use Rattle.fault_texts.proofs.Elements.{each_kept}

each_section : (e : List ℕ) (test : ℕ → Bool) → Each (λ i. i < count_of e) (sections_with test e)
each_section e test =
    each_kept (λ i. i < count_of e) test (range_with_len 0 (count_of e))
    (each-range (λ i. i < count_of e) 0 (count_of e) (λ i low high. omega arith))

row_of_read : (e : List ℕ) (f : ℕ → Fault) (test : ℕ → Bool) → ((i : ℕ) → i < count_of e → IsOfRead e (f i)) → Each (IsOfRead e) (map f (sections_with test e))
row_of_read e f test holds =
    each-map (IsOfRead e) f (sections_with test e) (each-weaker (λ i. i < count_of e) (λ i. IsOfRead e (f i)) holds (sections_with test e) (each_section e test))

met_below : (p : ℕ → Bool) (n i : ℕ) → i < n → (o : Option ℕ) → first_below p i ≡ o → found_or_0 o < n
met_below p n i below None none = omega arith
met_below p n i below (Some j) some = let found = first_below_passes p i j some in omega (arith, found.0)

outside_of_read : (e : List ℕ) → 0 < count_of e → (b : Bool) → Each (IsOfRead e) (if b then layout_in EntryOutside 0 ∷ [] else [])
outside_of_read e some true = ((some, some), tt)
outside_of_read e some false = tt

four : (P : Fault → Type 0) (a b c d f : List Fault) → Each P a → Each P b → Each P c → Each P d → Each P f → Each P (a ++ (b ++ (c ++ (d ++ f))))
four P a b c d f p q r s t = each-append P a (b ++ (c ++ (d ++ f))) p (each-append P b (c ++ (d ++ f)) q (each-append P c (d ++ f) r (each-append P d f s t)))

rows_of_read : (e : List ℕ) → 0 < count_of e → Each (IsOfRead e) (rows_faults e)
unfolding rows_faults
rows_of_read e some =
    four (IsOfRead e) (map (layout_in TooLarge) (sections_with (row_holds 2 e) e)) (map (overlap_in e) (sections_with (row_holds 3 e) e))
    (map (layout_in Dynamic) (sections_with (row_holds 4 e) e)) (map (layout_in Tls) (sections_with (row_holds 5 e) e))
    (if is_entry_outside e then layout_in EntryOutside 0 ∷ [] else [])
    (row_of_read e (layout_in TooLarge) (row_holds 2 e) (λ i below. (below, some)))
    (row_of_read e (overlap_in e) (row_holds 3 e) (λ i below. (below, met_below _ (count_of e) i below _ refl)))
    (row_of_read e (layout_in Dynamic) (row_holds 4 e) (λ i below. (below, some)))
    (row_of_read e (layout_in Tls) (row_holds 5 e) (λ i below. (below, some)))
    (outside_of_read e some (is_entry_outside e))

pub layout_of_read : (e : List ℕ) → 0 < count_of e → Each (IsOfRead e) (layout_faults e)
unfolding layout_faults
layout_of_read e some = by (has_sections e)
  where
    by : (b : Bool) → Each (IsOfRead e) (if b then rows_faults e else layout_in NoSections 0 ∷ [])
    by true = rows_of_read e some
    by false = ((some, some), tt)
