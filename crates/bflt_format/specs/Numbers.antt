-- Big-endian words of four bytes.
use Rattle.std.specs.Prelude.{ℕ, List}
use Rattle.byte_words.specs.Numbers.{high_first, number_at}

-- the four bytes from place `at`, the highest first
abbrev pub big_at : List ℕ → ℕ → ℕ
big_at y at = number_at high_first 4 y at
