-- The results of the M extension: RISC-V unprivileged ISA, '"M" Extension for Integer Multiplication and
-- Division'. Division rounds towards zero, and the remainder has the dividend's sign.
use Rattle.std.specs.Prelude.{ℕ, ◌-◌, ◌*◌, ◌/◌, ◌%◌, ◌^◌, ◌==◌, if◌then◌else◌, ℤ, pos, ◌*ℤ◌, int_div, int_rem}
use Rattle.std.specs.Int.{int_div_euclid}
use Rattle.rv32im_step.specs.Word.{wrap, signed, word}

-- the upper 32 of a product's 64 bits
abbrev pub upper : ℤ → ℕ
upper product = word (int_div_euclid product (pos (2 ^ 32)))

unfoldable pub mul : ℕ → ℕ → ℕ
mul a b = wrap (a * b)

unfoldable pub mulh : ℕ → ℕ → ℕ
mulh a b = upper (signed a *ℤ signed b)

unfoldable pub mulhsu : ℕ → ℕ → ℕ
mulhsu a b = upper (signed a *ℤ pos b)

unfoldable pub mulhu : ℕ → ℕ → ℕ
mulhu a b = a * b / 2 ^ 32

-- all bits are set in a quotient by zero
unfoldable pub div : ℕ → ℕ → ℕ
div a b = if b == 0 then 2 ^ 32 - 1 else word (int_div (signed a) (signed b))

unfoldable pub divu : ℕ → ℕ → ℕ
divu a b = if b == 0 then 2 ^ 32 - 1 else a / b

-- the remainder of a division by zero is the dividend
unfoldable pub rem : ℕ → ℕ → ℕ
rem a b = if b == 0 then a else word (int_rem (signed a) (signed b))

unfoldable pub remu : ℕ → ℕ → ℕ
remu a b = if b == 0 then a else a % b
