-- Numbers in a list of bytes, in either order of their bytes, by the offset of the first one. A byte past
-- the end of the list reads as 0.
use Rattle.std.specs.Prelude.{ℕ, ◌<◌, List, drop, slice_index}
use Rattle.byteorder.specs.Endian.{big_number, little_number}

-- each number is a byte
abbrev pub IsBytes : List ℕ → Type 0
IsBytes bytes = (i : ℕ) → slice_index bytes i < 256

-- the byte at an offset
unfoldable pub byte_at : List ℕ → ℕ → ℕ
byte_at bytes at = slice_index bytes at

-- the order of a number's bytes: little-endian or big-endian
pub data Order : Type 0 where
  low_first : Order
  high_first : Order

-- the number in the first n bytes
abbrev pub number_in : Order → ℕ → List ℕ → ℕ
number_in low_first n bytes = little_number n bytes
number_in high_first n bytes = big_number n bytes

-- the number in the n bytes from offset `at` on
unfoldable pub number_at : Order → ℕ → List ℕ → ℕ → ℕ
number_at order n bytes at = number_in order n (drop at bytes)
