-- Words of 32 bits and the numbers that they stand for: RISC-V unprivileged ISA, "Programmers' Model for
-- Base Integer ISA". Sums wrap, and signed values are two's complement.
use Rattle.std.specs.Prelude.{ℕ, ◌%◌, ◌^◌, Bool, nat_lt, if◌then◌else◌, ℤ, pos, ◌-ℤ◌, unsigned_abs}
use Rattle.std.specs.Int.{int_rem_euclid}

-- a number modulo 2^32
abbrev pub wrap : ℕ → ℕ
wrap n = n % 2 ^ 32

-- the signed value of a word
abbrev pub signed : ℕ → ℤ
signed n = if nat_lt n (2 ^ 31) then pos n else pos n -ℤ pos (2 ^ 32)

-- the word that a whole number is modulo 2^32
abbrev pub word : ℤ → ℕ
word z = unsigned_abs (int_rem_euclid z (pos (2 ^ 32)))

-- 1 where the test holds, else 0
abbrev pub flag : Bool → ℕ
flag test = if test then 1 else 0
