-- What a step asks of memory: RISC-V unprivileged ISA, RV32I, "Load and Store Instructions". An instruction
-- is fetched by one access; a load and a store make one more, and no other instruction makes any.
use Rattle.std.specs.Prelude.{ℕ, Bool, is_ok, Option, Some, None, Result, Ok, Err, List, [], ◌∷◌, ◌++◌}
use Rattle.rv32im_table.specs.declared.instr.Instr.{Instr}
use Rattle.rv32im_table.specs.declared.instr.Instr.TheVariants.{Lb, Lh, Lw, Lbu, Lhu, Sb, Sh, Sw}
use Rattle.rv32im_table.specs.Table.{decoded}
use Rattle.byte_words.specs.declared.access.Access.{Access}
use Rattle.rv32im_step.specs.declared.regs.Regs.{Regs}
use Rattle.rv32im_step.specs.Integer.{add}
use Rattle.byte_words.specs.ByteMap.{Bytes}
use Rattle.rv32im_step.specs.Memory.{fetch_of, load_of, store_of, loaded, stored}
use Rattle.rv32im_step.specs.Registers.{register}

-- an access, and whether it was carried out: else it was refused
pub record Asked : Type 0 where
  pub access : Access
  pub done : Bool

-- one access that reads
abbrev pub reads : Bytes → Access → List Asked
reads m access = record { access = access; done = is_ok (loaded m access) } ∷ []

-- one access that writes a number
abbrev pub writes : Bytes → (ℕ → Bool) → Access → ℕ → List Asked
writes m w access n = record { access = access; done = is_ok (stored m w access n) } ∷ []

-- the data access of an instruction at pc; `x r` is what register number r reads as
abbrev pub data_asked : Instr → (ℕ → ℕ) → ℕ → Bytes → (ℕ → Bool) → List Asked
data_asked (Lb rd rs1 imm) x pc m w = reads m (load_of pc (add (x rs1) imm) 1)
data_asked (Lh rd rs1 imm) x pc m w = reads m (load_of pc (add (x rs1) imm) 2)
data_asked (Lw rd rs1 imm) x pc m w = reads m (load_of pc (add (x rs1) imm) 4)
data_asked (Lbu rd rs1 imm) x pc m w = reads m (load_of pc (add (x rs1) imm) 1)
data_asked (Lhu rd rs1 imm) x pc m w = reads m (load_of pc (add (x rs1) imm) 2)
data_asked (Sb rs1 rs2 imm) x pc m w = writes m w (store_of pc (add (x rs1) imm) 1) (x rs2)
data_asked (Sh rs1 rs2 imm) x pc m w = writes m w (store_of pc (add (x rs1) imm) 2) (x rs2)
data_asked (Sw rs1 rs2 imm) x pc m w = writes m w (store_of pc (add (x rs1) imm) 4) (x rs2)
data_asked other x pc m w = []

unfoldable pub effect_asked : Instr → Regs → Bytes → (ℕ → Bool) → List Asked
effect_asked instr regs m w = data_asked instr (register regs.x) regs.pc m w

-- an illegal instruction asks nothing
abbrev pub decoded_asked : Option Instr → Regs → Bytes → (ℕ → Bool) → List Asked
decoded_asked (Some instr) regs m w = effect_asked instr regs m w
decoded_asked None regs m w = []

-- nothing is asked after a fetch that was refused
abbrev pub fetched_asked : Result ℕ Access → Regs → Bytes → (ℕ → Bool) → List Asked
fetched_asked (Ok word) regs m w = decoded_asked (decoded word) regs m w
fetched_asked (Err access) regs m w = []

-- the accesses of one step, in their order
unfoldable pub asked : Regs → Bytes → (ℕ → Bool) → List Asked
asked regs m w = reads m (fetch_of regs.pc) ++ fetched_asked (loaded m (fetch_of regs.pc)) regs m w
