-- Bytes by number, and what changes them. A picture is a function from a number to the byte there.
use Rattle.std.specs.Prelude.{ℕ, ◌+◌, ◌-◌, Bool, ◌&&◌, nat_lt, nat_le, if◌then◌else◌, List, [], ◌∷◌, ◌++◌, length, map, take, drop, slice_index, Option, Some, None}
use Rattle.std.specs.List.{range_with_len}
use Rattle.byteorder.specs.Endian.{big_bytes, little_bytes}

-- bytes that stand from a number on
pub record Patch : Type 0 where
  pub at : ℕ
  pub bytes : List ℕ

-- the patch has a byte at i
unfoldable pub spans : Patch → ℕ → Bool
spans p i = nat_le p.at i && nat_lt i (p.at + length p.bytes)

-- the picture m with the patch laid over it
unfoldable pub patched : Patch → (ℕ → ℕ) → ℕ → ℕ
patched p m i = if spans p i then slice_index p.bytes (i - p.at) else m i

-- the patches laid over m in their order, so that the last one shows
abbrev pub painted : List Patch → (ℕ → ℕ) → ℕ → ℕ
painted [] m = m
painted (p ∷ ps) m = painted ps (patched p m)

-- the first n bytes of a picture
unfoldable pub bytes_below : ℕ → (ℕ → ℕ) → List ℕ
bytes_below n m = map m (range_with_len 0 n)

-- the first `size` bytes of a picture, standing from address b on
unfoldable pub from_base : ℕ → ℕ → (ℕ → ℕ) → ℕ → Option ℕ
from_base b size m a = if nat_le b a && nat_lt a (b + size) then Some (m (a - b)) else None

-- a number of four bytes from number `at` on, the highest byte first
unfoldable pub big_word : ℕ → ℕ → Patch
big_word at n = record { at = at; bytes = big_bytes 4 n }

-- the same, the lowest byte first
unfoldable pub little_word : ℕ → ℕ → Patch
little_word at n = record { at = at; bytes = little_bytes 4 n }

-- a list of bytes with others laid over it from index `at` on
abbrev pub laid : List ℕ → ℕ → List ℕ → List ℕ
laid old at bytes = take at old ++ (bytes ++ drop (at + length bytes) old)
