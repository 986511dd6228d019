-- The fixed fields of an instruction word: RISC-V unprivileged ISA, "Base Instruction Formats".
use Rattle.std.specs.Prelude.{ℕ, ◌/◌, ◌%◌, ◌^◌}

-- `width` bits of a number, from bit `from` up
abbrev pub bits : ℕ → ℕ → ℕ → ℕ
bits n from width = n / 2 ^ from % 2 ^ width

unfoldable pub opcode : ℕ → ℕ
opcode w = bits w 0 7

unfoldable pub rd : ℕ → ℕ
rd w = bits w 7 5

unfoldable pub funct3 : ℕ → ℕ
funct3 w = bits w 12 3

unfoldable pub rs1 : ℕ → ℕ
rs1 w = bits w 15 5

unfoldable pub rs2 : ℕ → ℕ
rs2 w = bits w 20 5

-- the amount of a shift by an immediate stands where rs2 does
unfoldable pub shamt : ℕ → ℕ
shamt w = bits w 20 5

unfoldable pub funct7 : ℕ → ℕ
funct7 w = bits w 25 7
