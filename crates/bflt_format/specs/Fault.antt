-- What is wrong with the bytes of a flat file: twelve rows in one order, of which the first that holds is the fault.
use Rattle.std.specs.Prelude.{◌≡◌, ℕ, ◌+◌, ◌-◌, ◌*◌, ◌%◌, ◌<◌, ◌≤◌, Bool, true, false, not, ◌&&◌, ◌||◌, ◌==◌, nat_lt, nat_le, List, [], ◌∷◌, length, slice_index, Option, Some, None}
use Rattle.bflt_format.specs.declared.fault.FlatFault.{FlatFault}
use Rattle.bflt_format.specs.declared.fault.FlatFault.TheVariants.{Short, Magic, Revision, Flags, Bounds, DataAlign, Entry, StackSize, RecordTable, RecordRange, RecordOverlap, TargetRange}
use Rattle.bflt_format.specs.Numbers.{big_at}
use Rattle.byte_words.specs.Search.{any_below}
use Rattle.bflt_format.specs.Values.{Values, stored, image_size}
use Rattle.bflt_format.specs.Header.{magic, revision, entry, data_start, data_end, bss_end, stack_size, reloc_start, reloc_count, flags, flat_values}

-- the first row that holds
abbrev pub first : List (Bool × FlatFault) → Option FlatFault
first [] = None
first ((true, fault) ∷ rows) = Some fault
first ((false, fault) ∷ rows) = first rows

-- the fault where there is one, else the other
abbrev pub or_else : Option FlatFault → Option FlatFault → Option FlatFault
or_else None other = other
or_else (Some fault) other = Some fault

-- RAM alone, or RAM and KTRACE
abbrev pub is_known : ℕ → Bool
is_known n = n == 1 || n == 17

-- text, data and bss follow one another behind the header
abbrev pub is_in_order : List ℕ → Bool
is_in_order y = nat_le 64 (data_start y) && nat_le (data_start y) (data_end y) && nat_le (data_end y) (bss_end y)

unfoldable pub is_out_of_bounds : List ℕ → Bool
is_out_of_bounds y = not (is_in_order y) || nat_lt (length y) (data_end y) || nat_lt 16777216 (bss_end y - 64)

-- a multiple of 4, with a whole word of text or data there
unfoldable pub is_entry : List ℕ → Bool
is_entry y = entry y % 4 == 0 && nat_le 64 (entry y) && nat_le (entry y + 4) (data_end y)

unfoldable pub is_table_bad : List ℕ → Bool
is_table_bad y = nat_lt 0 (reloc_count y) && (nat_lt (reloc_start y) (data_end y) || nat_lt (length y) (reloc_start y + 4 * reloc_count y))

-- rows 1 to 9, of the header
abbrev pub header_rows : List ℕ → List (Bool × FlatFault)
header_rows y =
    ((nat_lt (length y) 64, Short)
    ∷ (not (magic y == 0x62464c54), Magic)
    ∷ (not (revision y == 4), Revision)
    ∷ (not (is_known (flags y)), Flags)
    ∷ (is_out_of_bounds y, Bounds)
    ∷ (not (data_start y % 32 == 0), DataAlign)
    ∷ (not (is_entry y), Entry)
    ∷ (nat_lt 1048576 (stack_size y), StackSize)
    ∷ (is_table_bad y, RecordTable)
    ∷ [])

unfoldable pub header_fault : List ℕ → Option FlatFault
header_fault y = first (header_rows y)

-- two words of four bytes have a byte in common: their places are less than 4 apart
unfoldable pub is_near : ℕ → ℕ → Bool
is_near p q = nat_lt p (q + 4) && nat_lt q (p + 4)

-- the word at record k passes the end of the data
unfoldable pub passes_data : ℕ → List ℕ → ℕ → Bool
passes_data limit records k = nat_lt limit (slice_index records k + 4)

-- record k is near an earlier one
unfoldable pub meets_earlier : List ℕ → ℕ → Bool
meets_earlier records k = any_below (λ j. is_near (slice_index records j) (slice_index records k)) k

-- the number that stands at record k is past the image's end
unfoldable pub targets_past : ℕ → List ℕ → List ℕ → ℕ → Bool
targets_past limit body records k = nat_lt limit (big_at body (slice_index records k))

-- rows 10 to 12, of the records: of a body of `stored` bytes in an image of `size`
abbrev pub record_rows : ℕ → ℕ → List ℕ → List ℕ → List (Bool × FlatFault)
record_rows stored size body records =
    ((any_below (passes_data stored records) (length records), RecordRange)
    ∷ (any_below (meets_earlier records) (length records), RecordOverlap)
    ∷ (any_below (targets_past size body records) (length records), TargetRange)
    ∷ [])

unfoldable pub record_fault : ℕ → ℕ → List ℕ → List ℕ → Option FlatFault
record_fault stored size body records = first (record_rows stored size body records)

abbrev pub values_fault : Values → Option FlatFault
values_fault f = record_fault (stored f) (image_size f) f.body f.records

unfoldable pub flat_fault : List ℕ → Option FlatFault
flat_fault y = or_else (header_fault y) (values_fault (flat_values y))

-- what is known of a header without a fault
pub record IsHeader (y : List ℕ) : Type 0 where
  pub long : 64 ≤ length y
  pub known : is_known (flags y) ≡ true
  pub text : 64 ≤ data_start y
  pub in_order : data_start y ≤ data_end y
  pub bss : data_end y ≤ bss_end y
  pub fits : data_end y ≤ length y
  pub size : bss_end y ≤ 64 + 16777216
  pub aligned : data_start y % 32 ≡ 0
  pub entry_aligned : entry y % 4 ≡ 0
  pub entry_from : 64 ≤ entry y
  pub entry_to : entry y + 4 ≤ data_end y
  pub stack : stack_size y ≤ 1048576
  pub table : 0 < reloc_count y → (data_end y ≤ reloc_start y) × (reloc_start y + 4 * reloc_count y ≤ length y)
