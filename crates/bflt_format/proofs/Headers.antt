-- What bytes without a fault are known to be.
use Rattle.std.proofs.Common.{◌≡◌, ℕ, ◌+◌, ◌-◌, ◌*◌, ◌%◌, ◌<◌, ◌≤◌, Bool, true, false, not, ◌&&◌, ◌||◌, ◌==◌, ltb, leb, List, [], ◌∷◌, length, None, refl, arith, inl, inr}
use Rattle.std.proofs.lemmas.Bool.{ltb-false, leb-true, eqb-true, and_parts, and_cases, or_parts, not-false, lt-ltb, both_ways}
use Rattle.bflt_format.specs.declared.fault.FlatFault.{FlatFault}
use Rattle.bflt_format.specs.Header.{entry, data_start, data_end, bss_end, reloc_start, reloc_count}
use Rattle.bflt_format.specs.Fault.{first, is_in_order, is_out_of_bounds, is_entry, is_table_bad, header_rows, header_fault, IsHeader}

-- no row holds
abbrev pub AreClear : List (Bool × FlatFault) → Type 0
AreClear [] = Unit {0}
AreClear ((b, fault) ∷ rows) = (b ≡ false) × AreClear rows

pub rows_clear : (rows : List (Bool × FlatFault)) → first rows ≡ None → AreClear rows
rows_clear [] none = tt
rows_clear ((true, fault) ∷ rows) none = absurd cc
rows_clear ((false, fault) ∷ rows) none = (refl, rows_clear rows none)

pub first_of_clear : (rows : List (Bool × FlatFault)) → AreClear rows → first rows ≡ None
first_of_clear [] clear = refl
first_of_clear ((true, fault) ∷ rows) clear = absurd cc
first_of_clear ((false, fault) ∷ rows) clear = first_of_clear rows clear.1

table_fits : (y : List ℕ) → is_table_bad y ≡ false → 0 < reloc_count y → (data_end y ≤ reloc_start y) × (reloc_start y + 4 * reloc_count y ≤ length y)
unfolding is_table_bad
table_fits y clear some =
    elim (and_cases (ltb 0 (reloc_count y)) (ltb (reloc_start y) (data_end y) || ltb (length y) (reloc_start y + 4 * reloc_count y)) clear) [
      | inl none ↦ absurd (both_ways (ltb 0 (reloc_count y)) none (lt-ltb _ _ some))
      | inr fits ↦ let both = or_parts (ltb (reloc_start y) (data_end y)) (ltb (length y) (reloc_start y + 4 * reloc_count y)) fits in (ltb-false _ _ both.0, ltb-false _ _ both.1)
    ]

pub is_header : (y : List ℕ) → header_fault y ≡ None → IsHeader y
unfolding header_fault is_out_of_bounds is_entry
is_header y none =
    let rows : AreClear (header_rows y) = rows_clear (header_rows y) none in
    let bounds = or_parts (not (is_in_order y) || ltb (length y) (data_end y)) (ltb 16777216 (bss_end y - 64)) rows.1.1.1.1.0 in
    let within = or_parts (not (is_in_order y)) (ltb (length y) (data_end y)) bounds.0 in
    let order = and_parts (leb 64 (data_start y) && leb (data_start y) (data_end y)) (leb (data_end y) (bss_end y)) (not-false _ within.0) in
    let ordered = and_parts (leb 64 (data_start y)) (leb (data_start y) (data_end y)) order.0 in
    let place = and_parts (entry y % 4 == 0 && leb 64 (entry y)) (leb (entry y + 4) (data_end y)) (not-false _ rows.1.1.1.1.1.1.0) in
    let aligned = and_parts (entry y % 4 == 0) (leb 64 (entry y)) place.0 in
    let size : bss_end y - 64 ≤ 16777216 = ltb-false _ _ bounds.1 in
    record {
      long = ltb-false _ _ rows.0;
      known = not-false _ rows.1.1.1.0;
      text = leb-true _ _ ordered.0;
      in_order = leb-true _ _ ordered.1;
      bss = leb-true _ _ order.1;
      fits = ltb-false _ _ within.1;
      size = omega (arith, leb-true _ _ ordered.0);
      aligned = eqb-true _ _ (not-false _ rows.1.1.1.1.1.0);
      entry_aligned = eqb-true _ _ aligned.0;
      entry_from = leb-true _ _ aligned.1;
      entry_to = leb-true _ _ place.1;
      stack = ltb-false _ _ rows.1.1.1.1.1.1.1.0;
      table = table_fits y rows.1.1.1.1.1.1.1.1.0;
    }
