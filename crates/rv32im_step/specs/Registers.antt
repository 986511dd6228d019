-- The registers: RISC-V unprivileged ISA, "Programmers' Model for Base Integer ISA".
use Rattle.std.specs.Prelude.{ℕ, ◌+◌, ◌==◌, if◌then◌else◌, List, slice_index, slice_set}
use Rattle.rv32im_step.specs.declared.regs.Regs.{Regs}
use Rattle.rv32im_step.specs.Word.{wrap}

-- what register number r reads as: x0 is zero
unfoldable pub register : List ℕ → ℕ → ℕ
register x r = if r == 0 then 0 else slice_index x r

-- the registers after register number r was written: x0 isn't written
unfoldable pub with_register : List ℕ → ℕ → ℕ → List ℕ
with_register x r v = if r == 0 then x else slice_set x r v

-- nothing but pc changes
abbrev pub following : Regs → Regs
following regs = record { pc = wrap (regs.pc + 4); x = regs.x }

-- the register rd is set, and the next instruction follows
abbrev pub setting : Regs → ℕ → ℕ → Regs
setting regs rd v = record { pc = wrap (regs.pc + 4); x = with_register regs.x rd v }
