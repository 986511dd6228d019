-- Big-endian words of four bytes, their sum, and padding to 16 (Linux, filesystems/romfs.rst).
use Rattle.std.specs.Prelude.{ℕ, ◌+◌, ◌*◌, ◌/◌, List, [], ◌∷◌}
use Rattle.byte_words.specs.Numbers.{high_first, number_at}

-- the four bytes from position `at`, the highest first
abbrev pub big_at : List ℕ → ℕ → ℕ
big_at y at = number_at high_first 4 y at

-- the sum of all whole words
abbrev pub word_sum : List ℕ → ℕ
word_sum [] = 0
word_sum (a ∷ []) = 0
word_sum (a ∷ b ∷ []) = 0
word_sum (a ∷ b ∷ c ∷ []) = 0
word_sum (a ∷ b ∷ c ∷ d ∷ bytes) = a * 16777216 + b * 65536 + c * 256 + d + word_sum bytes

-- the next multiple of 16
abbrev pub padded : ℕ → ℕ
padded n = (n + 15) / 16 * 16
