-- What Linux 6.1 does with a flat file on 32-bit RISC-V without an MMU: fs/binfmt_flat.c, load_flat_file and calc_reloc, with
-- BINFMT_FLAT_NO_DATA_START_OFFSET, and without BINFMT_ZFLAT and BINFMT_FLAT_OLD. Of the kernel these are facts, which nothing
-- here proves. Told of files with the flag RAM and without GOTPIC. Left out: whether there is memory, RLIMIT_DATA, the
-- arguments on the stack but for their length, what the bytes outside of the run are, which read as 0 here, and that the
-- address 0xff00ff01 (RELOC_FAILED) counts as a refusal where a record or its word comes to it.
use Rattle.std.specs.Prelude.{ℕ, zero, suc, ◌+◌, ◌*◌, ◌/◌, ◌%◌, ◌^◌, Bool, not, ◌&&◌, ◌||◌, ◌==◌, nat_lt, nat_le, max, List, [], ◌∷◌, take, drop, Option, Some, None, if◌then◌else◌}
use Rattle.byte_words.specs.Patches.{Patch, patched, painted, little_word}
use Rattle.bflt_format.specs.Header.{magic, revision, entry, data_start, data_end, bss_end, stack_size, reloc_start, reloc_count, flags}
use Rattle.linux_loader.specs.Numbers.{plus, minus, has_bit, word}

-- a program in memory: its bytes by address, and where it starts
pub record Process : Type 0 where
  pub memory : ℕ → ℕ
  pub entry : ℕ

-- what becomes of a file: ENOEXEC; or text and data apart, or a table of addresses, of which this definition doesn't tell
pub data Loading : Type 0 where
  Refused : Loading
  Untold : Loading
  Loaded : Process → Loading

-- ---- the header; the build date and the fillers aren't looked at

abbrev pub data_len : List ℕ → ℕ
data_len y = minus (data_end y) (data_start y)

abbrev pub bss_len : List ℕ → ℕ
bss_len y = minus (bss_end y) (data_end y)

-- load_flat_binary adds the bytes of the arguments
abbrev pub stack_len : List ℕ → ℕ → ℕ
stack_len y args = plus (stack_size y) args

abbrev pub full_data : List ℕ → ℕ
full_data y = plus (data_len y) (4 * reloc_count y)

-- a bit above the lowest 28 is set
abbrev pub is_large : ℕ → Bool
is_large n = nat_le (2 ^ 28) n

unfoldable pub is_insane : List ℕ → ℕ → Bool
is_insane y args =
    is_large (data_start y) || is_large (data_len y) || is_large (bss_len y)
    || is_large (stack_len y args) || is_large (reloc_count y) || is_large (full_data y)

-- FLAT_FLAG_GZIP (4) and FLAT_FLAG_GZDATA (8)
unfoldable pub is_packed : List ℕ → Bool
is_packed y = has_bit 2 (flags y) || has_bit 3 (flags y)

unfoldable pub is_refused : List ℕ → ℕ → Bool
is_refused y args = not (magic y == 0x62464c54) || not (revision y == 4) || is_insane y args || is_packed y

-- FLAT_FLAG_RAM (1) and FLAT_FLAG_GOTPIC (2)
unfoldable pub is_told : List ℕ → Bool
is_told y = has_bit 0 (flags y) && not (has_bit 1 (flags y))

-- ---- one run of pages at k

-- how many bytes are mapped: whole pages
unfoldable pub run_len : List ℕ → ℕ → ℕ
run_len y args = (data_start y + data_len y + max (bss_len y + stack_len y args) (4 * reloc_count y) + 4095) / 4096 * 4096

-- where the data begins: FLAT_DATA_ALIGN is 32
unfoldable pub data_place : List ℕ → ℕ → ℕ
data_place y k = (k + data_start y + 31) / 32 * 32

-- the part of the file that is read to k, and the part that is read to the data's place; the pages were zeros
unfoldable pub text_patch : List ℕ → ℕ → Patch
text_patch y k = record { at = k; bytes = take (data_start y) y }

unfoldable pub data_patch : List ℕ → ℕ → Patch
data_patch y k = record { at = data_place y k; bytes = take (full_data y) (drop (data_start y) y) }

unfoldable pub read_in : List ℕ → ℕ → ℕ → ℕ
read_in y k = painted (text_patch y k ∷ data_patch y k ∷ []) (λ a. 0)

-- ---- calc_reloc

-- the text behind the header
abbrev pub text_len : List ℕ → ℕ
text_len y = minus (data_start y) 64

-- start_brk - start_data + text_len
unfoldable pub reloc_limit : List ℕ → ℕ
reloc_limit y = plus (data_len y + bss_len y) (text_len y)

unfoldable pub calc_reloc : List ℕ → ℕ → ℕ → Option ℕ
calc_reloc y k r =
    if nat_lt (reloc_limit y) r then None
    else Some (if nat_lt r (text_len y) then plus r (k + 64) else plus (minus r (text_len y)) (data_place y k))

-- ---- the relocation records, in their order, as they stand in memory by then

-- where record i is read
unfoldable pub record_place : List ℕ → ℕ → ℕ → ℕ
record_place y k i = (data_place y k + minus (reloc_start y) (data_start y) + 4 * i) % 2 ^ 32

-- a word becomes an address, little-endian
abbrev pub put_address : ℕ → Option ℕ → (ℕ → ℕ) → Option (ℕ → ℕ)
put_address a None m = None
put_address a (Some address) m = Some (patched (little_word a address) m)

-- a word 0 stays as it is
abbrev pub relocated : List ℕ → ℕ → Option ℕ → (ℕ → ℕ) → Option (ℕ → ℕ)
relocated y k None m = None
relocated y k (Some a) m = if word m a == 0 then Some m else put_address a (calc_reloc y k (word m a)) m

abbrev pub relocated_by : List ℕ → ℕ → ℕ → Option (ℕ → ℕ) → Option (ℕ → ℕ)
relocated_by y k i None = None
relocated_by y k i (Some m) = relocated y k (calc_reloc y k (word m (record_place y k i))) m

-- the memory after the first n records
unfoldable pub memory_after : List ℕ → ℕ → ℕ → Option (ℕ → ℕ)
memory_after y k zero = Some (read_in y k)
memory_after y k (suc n) = relocated_by y k n (memory_after y k n)

-- ---- the end

-- zeros from one address up to another
unfoldable pub cleared : ℕ → ℕ → (ℕ → ℕ) → ℕ → ℕ
cleared from to m a = if nat_le from a && nat_lt a to then 0 else m a

-- bss, the break and the stack are cleared; the entry counts from the file's start, in 24 bits
abbrev pub process_of : List ℕ → ℕ → ℕ → (ℕ → ℕ) → Process
process_of y args k m = record {
  memory = cleared (data_place y k + data_len y) (k + run_len y args) m;
  entry = plus (entry y % 2 ^ 24) k;
}

abbrev pub loading_of : List ℕ → ℕ → ℕ → Option (ℕ → ℕ) → Loading
loading_of y args k None = Refused
loading_of y args k (Some m) = Loaded (process_of y args k m)

-- the file y is loaded into the run of pages at k, for arguments of so many bytes
unfoldable pub linux : List ℕ → ℕ → ℕ → Loading
linux y args k =
    if is_refused y args then Refused else if not (is_told y) then Untold else loading_of y args k (memory_after y k (reloc_count y))
