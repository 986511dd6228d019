-- The definition, computed: on the smallest worked example, on the same file with its record four bytes behind the data,
-- on files that Linux refuses, and on one whose text ends at no multiple of 32.
use Rattle.std.proofs.Common.{◌≡◌, ℕ, zero, suc, ◌+◌, List, [], ◌∷◌, ◌++◌, take, drop, slice_set, Option, Some, None, refl}
use Rattle.byte_words.specs.Numbers.{number_at}
use Rattle.byte_words.specs.Patches.{spans, patched, from_base, little_word}
use Rattle.byte_words.specs.Search.{any_below}
use Rattle.bflt_format.specs.Header.{flat_values}
use Rattle.bflt_format.specs.Fault.{header_fault, record_fault, is_out_of_bounds, is_entry, is_table_bad, passes_data, meets_earlier, targets_past, is_near, flat_fault}
use Rattle.bflt_format.specs.Image.{link, flat_image}
use Rattle.linux_loader.specs.Numbers.{word}
use Rattle.linux_loader.specs.Loader.{Loading, Refused, Untold, Loaded, is_insane, is_packed, is_refused, is_told, run_len, data_place, text_patch, data_patch, read_in, reloc_limit, calc_reloc, record_place, memory_after, cleared, linux}

-- convert-one-word: 8 bytes of text behind 64 zeros, a word that points at them, one record
file : List ℕ
file =
    98 ∷ 70 ∷ 76 ∷ 84 ∷ 0 ∷ 0 ∷ 0 ∷ 4 ∷ 0 ∷ 0 ∷ 0 ∷ 128 ∷ 0 ∷ 0 ∷ 0 ∷ 128 ∷ 0 ∷ 0 ∷ 0 ∷ 140 ∷ 0 ∷ 0 ∷ 0 ∷ 140 ∷ 0 ∷ 0 ∷
    16 ∷ 0 ∷ 0 ∷ 0 ∷ 0 ∷ 140 ∷ 0 ∷ 0 ∷ 0 ∷ 1 ∷ 0 ∷ 0 ∷ 0 ∷ 1 ∷ 0 ∷ 0 ∷ 0 ∷ 0 ∷ 0 ∷ 0 ∷ 0 ∷ 0 ∷ 0 ∷ 0 ∷ 0 ∷ 0 ∷ 0 ∷ 0 ∷
    0 ∷ 0 ∷ 0 ∷ 0 ∷ 0 ∷ 0 ∷ 0 ∷ 0 ∷ 0 ∷ 0 ∷ 0 ∷ 0 ∷ 0 ∷ 0 ∷ 0 ∷ 0 ∷ 0 ∷ 0 ∷ 0 ∷ 0 ∷ 0 ∷ 0 ∷ 0 ∷ 0 ∷ 0 ∷ 0 ∷ 0 ∷ 0 ∷ 0 ∷ 0 ∷
    0 ∷ 0 ∷ 0 ∷ 0 ∷ 0 ∷ 0 ∷ 0 ∷ 0 ∷ 0 ∷ 0 ∷ 0 ∷ 0 ∷ 0 ∷ 0 ∷ 0 ∷ 0 ∷ 0 ∷ 0 ∷ 0 ∷ 0 ∷ 0 ∷ 0 ∷ 0 ∷ 0 ∷ 0 ∷ 0 ∷ 0 ∷ 0 ∷ 0 ∷ 0 ∷
    0 ∷ 0 ∷ 0 ∷ 0 ∷ 0 ∷ 0 ∷ 0 ∷ 0 ∷ 0 ∷ 0 ∷ 0 ∷ 0 ∷ 0 ∷ 0 ∷ 19 ∷ 5 ∷ 0 ∷ 0 ∷ 147 ∷ 8 ∷ 208 ∷ 5 ∷ 0 ∷ 0 ∷ 0 ∷ 64 ∷ 0 ∷ 0 ∷
    0 ∷ 72 ∷ []

-- its record starts at 144, behind four bytes that are in no part
gap_file : List ℕ
gap_file = take 140 (slice_set file 31 144) ++ (1 ∷ 2 ∷ 3 ∷ 4 ∷ 0 ∷ 0 ∷ 0 ∷ 72 ∷ [])

byte_of : Loading → ℕ → Option ℕ
byte_of (Loaded process) a = Some (process.memory a)
byte_of _ a = None

-- so many bytes from an address on
bytes_from : (ℕ → ℕ) → ℕ → ℕ → List ℕ
bytes_from m a zero = []
bytes_from m a (suc n) = m a ∷ bytes_from m (a + 1) n

bytes_of : Loading → ℕ → ℕ → Option (List ℕ)
bytes_of (Loaded process) a n = Some (bytes_from process.memory a n)
bytes_of _ a n = None

entry_of : Loading → Option ℕ
entry_of (Loaded process) = Some process.entry
entry_of _ = None

-- the run is two pages
pages : run_len file 0 ≡ 8192
unfolding run_len number_at file
pages = refl

-- all of the file's 144 bytes as they stand in memory: the word at 136 is the address of image number 64, lowest byte first,
-- and where the record was read there are zeros
whole : bytes_of (linux file 0 0x80400000) 0x80400000 144 ≡ Some (take 136 file ++ (0x80 ∷ 0 ∷ 0x40 ∷ 0x80 ∷ 0 ∷ 0 ∷ 0 ∷ 0 ∷ []))
unfolding is_insane is_packed is_refused is_told run_len data_place text_patch data_patch read_in reloc_limit calc_reloc record_place memory_after cleared linux word number_at patched spans little_word bytes_of bytes_from file
whole = refl

starts : entry_of (linux file 0 0x80400000) ≡ Some 0x80400080
unfolding is_insane is_packed is_refused is_told run_len data_place text_patch data_patch read_in reloc_limit calc_reloc record_place memory_after cleared linux word number_at patched spans little_word byte_of entry_of file
starts = refl

-- with a gap the file has no fault, but Linux reads the record as 0. So the record names the image's first word,
-- which is 0 here and stays; the word that it should name stays as it stands in the file
gap_is_taken : flat_fault gap_file ≡ None
unfolding flat_fault header_fault record_fault is_out_of_bounds is_entry is_table_bad any_below passes_data meets_earlier targets_past is_near flat_values number_at gap_file file
gap_is_taken = refl

gap_is_loaded : entry_of (linux gap_file 0 0x80400000) ≡ Some 0x80400080
unfolding is_insane is_packed is_refused is_told run_len data_place text_patch data_patch read_in reloc_limit calc_reloc record_place memory_after cleared linux word number_at patched spans little_word byte_of entry_of file gap_file
gap_is_loaded = refl

gap_not_linked : byte_of (linux gap_file 0 0x80400000) 0x8040008b ≡ Some 64
unfolding is_insane is_packed is_refused is_told run_len data_place text_patch data_patch read_in reloc_limit calc_reloc record_place memory_after cleared linux word number_at patched spans little_word byte_of entry_of file gap_file
gap_not_linked = refl

gap_image : flat_image (flat_values gap_file) 0x80400040 0x8040008b ≡ Some 0x80
unfolding flat_image link from_base patched spans little_word flat_values number_at gap_file file
gap_image = refl

-- with a gap, and 8 as the image's first word: no fault, but Linux makes an address of it
gap_to_eight : List ℕ
gap_to_eight = slice_set gap_file 67 8

eight_is_taken : flat_fault gap_to_eight ≡ None
unfolding flat_fault header_fault record_fault is_out_of_bounds is_entry is_table_bad any_below passes_data meets_earlier targets_past is_near flat_values number_at gap_to_eight gap_file file
eight_is_taken = refl

eight_is_linked : bytes_of (linux gap_to_eight 0 0x80400000) 0x80400040 4 ≡ Some (0x48 ∷ 0 ∷ 0x40 ∷ 0x80 ∷ [])
unfolding is_insane is_packed is_refused is_told run_len data_place text_patch data_patch read_in reloc_limit calc_reloc record_place memory_after cleared linux word number_at patched spans little_word bytes_of bytes_from file gap_file gap_to_eight
eight_is_linked = refl

-- with a gap, and an instruction as the image's first word: no fault, but Linux refuses the file, since 0x13050000 is above
-- the limit, which is 76
gap_to_code : List ℕ
gap_to_code = slice_set (slice_set gap_file 64 0x13) 65 5

code_limit : reloc_limit gap_to_code ≡ 76
unfolding reloc_limit number_at gap_to_code gap_file file
code_limit = refl

code_is_taken : flat_fault gap_to_code ≡ None
unfolding flat_fault header_fault record_fault is_out_of_bounds is_entry is_table_bad any_below passes_data meets_earlier targets_past is_near flat_values number_at gap_to_code gap_file file
code_is_taken = refl

code_is_refused : linux gap_to_code 0 0x80400000 ≡ Refused
unfolding is_insane is_packed is_refused is_told run_len data_place text_patch data_patch read_in reloc_limit calc_reloc record_place memory_after cleared linux word number_at patched spans little_word file gap_file gap_to_code
code_is_refused = refl

-- another magic, another revision, a packed file, a large stack
other_magic : linux (slice_set file 0 99) 0 0x80400000 ≡ Refused
unfolding is_insane is_packed is_refused is_told run_len data_place text_patch data_patch read_in reloc_limit calc_reloc record_place memory_after cleared linux word number_at patched spans little_word file
other_magic = refl

other_revision : linux (slice_set file 7 5) 0 0x80400000 ≡ Refused
unfolding is_insane is_packed is_refused is_told run_len data_place text_patch data_patch read_in reloc_limit calc_reloc record_place memory_after cleared linux word number_at patched spans little_word file
other_revision = refl

packed : linux (slice_set file 39 5) 0 0x80400000 ≡ Refused
unfolding is_insane is_packed is_refused is_told run_len data_place text_patch data_patch read_in reloc_limit calc_reloc record_place memory_after cleared linux word number_at patched spans little_word file
packed = refl

large_stack : linux (slice_set file 24 16) 0 0x80400000 ≡ Refused
unfolding is_insane is_packed is_refused is_told run_len data_place text_patch data_patch read_in reloc_limit calc_reloc record_place memory_after cleared linux word number_at patched spans little_word file
large_stack = refl

-- a record above the limit; one at the limit, whose word is the record itself, which is cleared later
record_above : linux (slice_set file 143 77) 0 0x80400000 ≡ Refused
unfolding is_insane is_packed is_refused is_told run_len data_place text_patch data_patch read_in reloc_limit calc_reloc record_place memory_after cleared linux word number_at patched spans little_word file
record_above = refl

record_at_limit : entry_of (linux (slice_set file 143 76) 0 0x80400000) ≡ Some 0x80400080
unfolding is_insane is_packed is_refused is_told run_len data_place text_patch data_patch read_in reloc_limit calc_reloc record_place memory_after cleared linux word number_at patched spans little_word byte_of entry_of file
record_at_limit = refl

-- text and data apart
apart : linux (slice_set file 39 0) 0 0x80400000 ≡ Untold
unfolding is_insane is_packed is_refused is_told run_len data_place text_patch data_patch read_in reloc_limit calc_reloc record_place memory_after cleared linux word number_at patched spans little_word file
apart = refl

-- text that ends at a multiple of 16 and not of 32: Linux puts the data 16 bytes further, and leaves zeros at the entry
shifted_data : bytes_of (linux (slice_set file 15 112) 0 0x80400000) 0x80400080 20 ≡ Some (take 16 (drop 112 file) ++ (0x13 ∷ 5 ∷ 0 ∷ 0 ∷ []))
unfolding is_insane is_packed is_refused is_told run_len data_place text_patch data_patch read_in reloc_limit calc_reloc record_place memory_after cleared linux word number_at patched spans little_word bytes_of bytes_from file
shifted_data = refl

shifted_start : entry_of (linux (slice_set file 15 112) 0 0x80400000) ≡ Some 0x80400080
unfolding is_insane is_packed is_refused is_told run_len data_place text_patch data_patch read_in reloc_limit calc_reloc record_place memory_after cleared linux word number_at patched spans little_word byte_of entry_of file
shifted_start = refl
