-- Arithmetic in words of 32 bits, and big-endian words of a memory.
use Rattle.std.specs.Prelude.{ℕ, ◌+◌, ◌-◌, ◌/◌, ◌%◌, ◌^◌, Bool, ◌==◌, [], ◌∷◌}
use Rattle.byteorder.specs.Endian.{big_number}

abbrev pub plus : ℕ → ℕ → ℕ
plus a b = (a + b) % 2 ^ 32

-- of a word b
abbrev pub minus : ℕ → ℕ → ℕ
minus a b = (a + (2 ^ 32 - b)) % 2 ^ 32

-- bit k of a word is set
abbrev pub has_bit : ℕ → ℕ → Bool
has_bit k n = n / 2 ^ k % 2 == 1

-- the four bytes from an address on, the highest first (ntohl)
unfoldable pub word : (ℕ → ℕ) → ℕ → ℕ
word m a = big_number 4 (m a ∷ m (a + 1) ∷ m (a + 2) ∷ m (a + 3) ∷ [])
