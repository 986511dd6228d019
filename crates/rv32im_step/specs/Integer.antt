-- The results of the integer computations: RISC-V unprivileged ISA, RV32I, "Integer Computational
-- Instructions". The arguments are the two words that an instruction works on.
use Rattle.std.specs.Prelude.{ℕ, ◌+◌, ◌*◌, ◌/◌, ◌%◌, ◌^◌, nat_lt, int_lt, pos, ◌-ℤ◌}
use Rattle.std.specs.Int.{int_div_euclid}
use Rattle.rv32im_step.specs.Word.{wrap, signed, word, flag}

abbrev pub add : ℕ → ℕ → ℕ
add a b = wrap (a + b)

unfoldable pub sub : ℕ → ℕ → ℕ
sub a b = word (pos a -ℤ pos b)

unfoldable pub slt : ℕ → ℕ → ℕ
slt a b = flag (int_lt (signed a) (signed b))

unfoldable pub sltu : ℕ → ℕ → ℕ
sltu a b = flag (nat_lt a b)

-- shifts go by the low five bits of the second word
unfoldable pub sll : ℕ → ℕ → ℕ
sll a b = wrap (a * 2 ^ (b % 32))

unfoldable pub srl : ℕ → ℕ → ℕ
srl a b = a / 2 ^ (b % 32)

-- the sign moves in from the left: the quotient is rounded down
unfoldable pub sra : ℕ → ℕ → ℕ
sra a b = word (int_div_euclid (signed a) (pos (2 ^ (b % 32))))
