-- The header of a flat file of version 4 ("flat.h" of uClinux, struct flat_hdr): sixteen big-endian words of four bytes.
-- All places count from the start of the file.
use Rattle.std.specs.Prelude.{ℕ, ◌+◌, ◌-◌, ◌*◌, List, map, take, drop}
use Rattle.std.specs.List.{range_with_len}
use Rattle.bflt_format.specs.Numbers.{big_at}
use Rattle.bflt_format.specs.Values.{Values}

abbrev pub magic : List ℕ → ℕ
magic y = big_at y 0

abbrev pub revision : List ℕ → ℕ
revision y = big_at y 4

abbrev pub entry : List ℕ → ℕ
entry y = big_at y 8

abbrev pub data_start : List ℕ → ℕ
data_start y = big_at y 12

abbrev pub data_end : List ℕ → ℕ
data_end y = big_at y 16

abbrev pub bss_end : List ℕ → ℕ
bss_end y = big_at y 20

abbrev pub stack_size : List ℕ → ℕ
stack_size y = big_at y 24

abbrev pub reloc_start : List ℕ → ℕ
reloc_start y = big_at y 28

abbrev pub reloc_count : List ℕ → ℕ
reloc_count y = big_at y 32

abbrev pub flags : List ℕ → ℕ
flags y = big_at y 36

-- relocation record k
abbrev pub record_at : List ℕ → ℕ → ℕ
record_at y k = big_at y (reloc_start y + 4 * k)

-- what the bytes y say as a flat file
unfoldable pub flat_values : List ℕ → Values
flat_values y = record {
  entry = entry y;
  text = data_start y - 64;
  data_len = data_end y - data_start y;
  bss = bss_end y - data_end y;
  stack = stack_size y;
  flags = flags y;
  body = take (data_end y - 64) (drop 64 y);
  records = map (record_at y) (range_with_len 0 (reloc_count y));
}
