-- `list`, computed on the flat file of the worked example convert-one-word.
use Rattle.std.proofs.Common.{◌≡◌, [], ◌∷◌, Some, None, take, codes, refl}
use Rattle.std.specs.Fmt.{digits}
use Rattle.byte_words.specs.Search.{any_below}
use Rattle.bflt_format.specs.Header.{flat_values}
use Rattle.bflt_format.specs.Fault.{header_fault, record_fault, is_out_of_bounds, is_entry, is_table_bad, passes_data, meets_earlier, targets_past, is_near, flat_fault}
use Rattle.elf2flt_tool.proofs.Samples.{one_word_flat}
use Rattle.file_commands.specs.declared.status.Status.TheVariants as status
use Rattle.file_commands.specs.Ending.{refused_ending}
use Rattle.file_commands.specs.Arguments.{list, command_of}
use Rattle.file_commands.specs.List.{listed_ending}
use Rattle.byte_words.specs.Numbers.{number_at}

one_word_listed : listed_ending one_word_flat ≡ record { status = status.Done; out = codes "rev 4 flags 1\nentry 128\ntext 64 128\ndata 128 140\nbss 140 140\nstack 4096\nrecords 1\nrecord 72 word 64\n"; report = [] }
unfolding digits flat_fault header_fault record_fault is_out_of_bounds is_entry is_table_bad any_below passes_data meets_earlier targets_past is_near flat_values number_at
one_word_listed = refl

cut_file : listed_ending (take 63 one_word_flat) ≡ refused_ending (codes "flat 1 Short")
unfolding flat_fault header_fault record_fault is_out_of_bounds is_entry is_table_bad any_below passes_data meets_earlier targets_past is_near flat_values number_at
cut_file = refl

arguments_are_read : command_of (codes "list" ∷ codes "a.flt" ∷ []) ≡ Some (list (codes "a.flt"))
arguments_are_read = refl

one_argument_more : command_of (codes "list" ∷ codes "a.flt" ∷ codes "b.flt" ∷ []) ≡ None
one_argument_more = refl
