-- The definitions, computed on the file 'convert-one-word': 8 bytes of text behind 64 zeros, one word of data that
-- points at the text's first byte, one record.
use Rattle.std.proofs.Common.{◌≡◌, ℕ, List, [], ◌∷◌, ◌++◌, take, refl, Some, None, slice_set}
use Rattle.bflt_format.specs.declared.fault.FlatFault.TheVariants.{Short, Flags, RecordRange, RecordOverlap, TargetRange}
use Rattle.byte_words.specs.Search.{any_below}
use Rattle.byte_words.specs.Patches.{spans, patched, from_base, little_word}
use Rattle.bflt_format.specs.Values.{Values}
use Rattle.bflt_format.specs.Header.{flat_values}
use Rattle.bflt_format.specs.Fault.{header_fault, record_fault, is_out_of_bounds, is_entry, is_table_bad, passes_data, meets_earlier, targets_past, is_near, flat_fault}
use Rattle.bflt_format.specs.Spelling.{spell}
use Rattle.bflt_format.specs.Image.{link, flat_image}
use Rattle.byte_words.specs.Numbers.{number_at}

body : List ℕ
body =
    0 ∷ 0 ∷ 0 ∷ 0 ∷ 0 ∷ 0 ∷ 0 ∷ 0 ∷ 0 ∷ 0 ∷ 0 ∷ 0 ∷ 0 ∷ 0 ∷ 0 ∷ 0 ∷ 0 ∷ 0 ∷ 0 ∷ 0 ∷ 0 ∷ 0 ∷ 0 ∷ 0
    ∷ 0 ∷ 0 ∷ 0 ∷ 0 ∷ 0 ∷ 0 ∷ 0 ∷ 0 ∷ 0 ∷ 0 ∷ 0 ∷ 0 ∷ 0 ∷ 0 ∷ 0 ∷ 0 ∷ 0 ∷ 0 ∷ 0 ∷ 0 ∷ 0 ∷ 0 ∷ 0 ∷ 0
    ∷ 0 ∷ 0 ∷ 0 ∷ 0 ∷ 0 ∷ 0 ∷ 0 ∷ 0 ∷ 0 ∷ 0 ∷ 0 ∷ 0 ∷ 0 ∷ 0 ∷ 0 ∷ 0 ∷ 19 ∷ 5 ∷ 0 ∷ 0 ∷ 103 ∷ 128 ∷ 0 ∷ 0
    ∷ 0 ∷ 0 ∷ 0 ∷ 64 ∷ []

one_word : Values
one_word = record { entry = 128; text = 64; data_len = 12; bss = 0; stack = 4096; flags = 1; body = body; records = 0x48 ∷ [] }

file : List ℕ
file =
    98 ∷ 70 ∷ 76 ∷ 84 ∷ 0 ∷ 0 ∷ 0 ∷ 4 ∷ 0 ∷ 0 ∷ 0 ∷ 128 ∷ 0 ∷ 0 ∷ 0 ∷ 128 ∷ 0 ∷ 0 ∷ 0 ∷ 140 ∷ 0 ∷ 0 ∷ 0 ∷ 140
    ∷ 0 ∷ 0 ∷ 16 ∷ 0 ∷ 0 ∷ 0 ∷ 0 ∷ 140 ∷ 0 ∷ 0 ∷ 0 ∷ 1 ∷ 0 ∷ 0 ∷ 0 ∷ 1 ∷ 0 ∷ 0 ∷ 0 ∷ 0 ∷ 0 ∷ 0 ∷ 0 ∷ 0
    ∷ 0 ∷ 0 ∷ 0 ∷ 0 ∷ 0 ∷ 0 ∷ 0 ∷ 0 ∷ 0 ∷ 0 ∷ 0 ∷ 0 ∷ 0 ∷ 0 ∷ 0 ∷ 0 ∷ 0 ∷ 0 ∷ 0 ∷ 0 ∷ 0 ∷ 0 ∷ 0 ∷ 0
    ∷ 0 ∷ 0 ∷ 0 ∷ 0 ∷ 0 ∷ 0 ∷ 0 ∷ 0 ∷ 0 ∷ 0 ∷ 0 ∷ 0 ∷ 0 ∷ 0 ∷ 0 ∷ 0 ∷ 0 ∷ 0 ∷ 0 ∷ 0 ∷ 0 ∷ 0 ∷ 0 ∷ 0
    ∷ 0 ∷ 0 ∷ 0 ∷ 0 ∷ 0 ∷ 0 ∷ 0 ∷ 0 ∷ 0 ∷ 0 ∷ 0 ∷ 0 ∷ 0 ∷ 0 ∷ 0 ∷ 0 ∷ 0 ∷ 0 ∷ 0 ∷ 0 ∷ 0 ∷ 0 ∷ 0 ∷ 0
    ∷ 0 ∷ 0 ∷ 0 ∷ 0 ∷ 0 ∷ 0 ∷ 0 ∷ 0 ∷ 19 ∷ 5 ∷ 0 ∷ 0 ∷ 103 ∷ 128 ∷ 0 ∷ 0 ∷ 0 ∷ 0 ∷ 0 ∷ 64 ∷ 0 ∷ 0 ∷ 0 ∷ 72
    ∷ []

file_values : flat_values file ≡ one_word
unfolding flat_values number_at file one_word body
file_values = refl

file_spelled : spell one_word ≡ file
unfolding spell file one_word body
file_spelled = refl

file_has_no_fault : flat_fault file ≡ None
unfolding flat_fault header_fault record_fault is_out_of_bounds is_entry is_table_bad any_below passes_data meets_earlier targets_past is_near flat_values number_at file
file_has_no_fault = refl

cut_file : flat_fault (take 63 file) ≡ Some Short
unfolding flat_fault header_fault record_fault is_out_of_bounds is_entry is_table_bad any_below passes_data meets_earlier targets_past is_near flat_values number_at file
cut_file = refl

other_flags : flat_fault (slice_set file 39 5) ≡ Some Flags
unfolding flat_fault header_fault record_fault is_out_of_bounds is_entry is_table_bad any_below passes_data meets_earlier targets_past is_near flat_values number_at file
other_flags = refl

record_past : flat_fault (slice_set file 143 0x49) ≡ Some RecordRange
unfolding flat_fault header_fault record_fault is_out_of_bounds is_entry is_table_bad any_below passes_data meets_earlier targets_past is_near flat_values number_at file
record_past = refl

near_record : flat_fault (slice_set file 35 2 ++ 0 ∷ 0 ∷ 0 ∷ 0x46 ∷ []) ≡ Some RecordOverlap
unfolding flat_fault header_fault record_fault is_out_of_bounds is_entry is_table_bad any_below passes_data meets_earlier targets_past is_near flat_values number_at file
near_record = refl

target_past : flat_fault (slice_set file 139 0x4d) ≡ Some TargetRange
unfolding flat_fault header_fault record_fault is_out_of_bounds is_entry is_table_bad any_below passes_data meets_earlier targets_past is_near flat_values number_at file
target_past = refl

-- at the base 0x80000040 the word is the address of the text's first byte, 0x80000080, lowest byte first
word_linked : flat_image one_word 0x80000040 0x80000088 ≡ Some 0x80
unfolding flat_image link from_base patched spans little_word number_at one_word body
word_linked = refl

last_linked : flat_image one_word 0x80000040 0x8000008b ≡ Some 0x80
unfolding flat_image link from_base patched spans little_word number_at one_word body
last_linked = refl

past_image : flat_image one_word 0x80000040 0x8000008c ≡ None
unfolding flat_image link from_base patched spans little_word number_at one_word body
past_image = refl
