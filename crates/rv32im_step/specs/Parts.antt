-- The registers by their parts, as they are held while a hart runs: pc by itself, and x0 to x31.
use Rattle.std.specs.Prelude.{ℕ, List}
use Rattle.rv32im_step.specs.declared.regs.Regs.{Regs}

abbrev pub registers : ℕ → List ℕ → Regs
registers pc x = record { pc = pc; x = x }
