-- The layout of an image: its bytes have the numbers from 0 up; text, data and bss follow each other (this project's own).
use Rattle.std.specs.Prelude.{ℕ, ◌+◌, ◌-◌, ◌*◌, ◌/◌, ◌%◌, ◌^◌, List}
use Rattle.elf32_reader.specs.Header.{count_of, entry_of}
use Rattle.elf32_reader.specs.Sections.{section}
use Rattle.flat_layout.specs.declared.layout.Layout.{Layout}
use Rattle.flat_layout.specs.Extremes.{least_below, greatest_below}
use Rattle.flat_layout.specs.Numbering.{has_bytes, is_written, end_of, highest, distance, start_of}

-- the number of an address: (a - V0) mod 2^32
unfoldable pub off : Layout → ℕ → ℕ
off l a = (a + 2 ^ 32 - l.v0) % 2 ^ 32

-- T + D + B: how many bytes the image has
abbrev pub size_of : Layout → ℕ
size_of l = l.text + l.data_len + l.bss

-- E: the highest end of a section whose bytes stand in the file, or 0
unfoldable pub stored_end : List ℕ → ℕ
stored_end e = greatest_below (λ i. has_bytes (section e i)) (λ i. distance e (end_of (section e i))) (count_of e)

-- the lower of E and W, the lowest number of a writable section
unfoldable pub written_from : List ℕ → ℕ
written_from e =
    least_below (λ i. is_written (section e i)) (λ i. distance e (section e i).addr) (stored_end e) (count_of e)

-- T: text ends at a multiple of 32
unfoldable pub text_of : List ℕ → ℕ
text_of e = written_from e / 32 * 32

unfoldable pub layout : List ℕ → Layout
layout e = record {
  v0 = start_of e;
  text = text_of e;
  data_len = stored_end e - text_of e;
  bss = distance e (highest e) - stored_end e;
  entry = (entry_of e + 2 ^ 32 - start_of e) % 2 ^ 32;
}
