-- The kinds of instructions of which several are carried out alike: RISC-V unprivileged ISA, the sections of RV32I
-- and of the M extension.
use Rattle.std.specs.Prelude.{⊤}
use Rattle.rv32im_table.specs.declared.instr.Instr.{Instr}
use Rattle.rv32im_table.specs.declared.instr.Instr.TheVariants.{Beq, Bne, Blt, Bge, Bltu, Bgeu, Lb, Lh, Lw, Lbu, Lhu, Sb, Sh, Sw, Addi, Slti, Sltiu, Xori, Ori, Andi, Slli, Srli, Srai, Add, Sub, Sll, Slt, Sltu, Xor, Srl, Sra, Or, And, Mul, Mulh, Mulhsu, Mulhu, Div, Divu, Rem, Remu}

-- a conditional branch
abbrev pub IsBranch : Instr → Type 0
IsBranch (Beq rs1 rs2 imm) = ⊤
IsBranch (Bne rs1 rs2 imm) = ⊤
IsBranch (Blt rs1 rs2 imm) = ⊤
IsBranch (Bge rs1 rs2 imm) = ⊤
IsBranch (Bltu rs1 rs2 imm) = ⊤
IsBranch (Bgeu rs1 rs2 imm) = ⊤
IsBranch instr = ⊥

-- a load
abbrev pub IsLoad : Instr → Type 0
IsLoad (Lb rd rs1 imm) = ⊤
IsLoad (Lh rd rs1 imm) = ⊤
IsLoad (Lw rd rs1 imm) = ⊤
IsLoad (Lbu rd rs1 imm) = ⊤
IsLoad (Lhu rd rs1 imm) = ⊤
IsLoad instr = ⊥

-- a store
abbrev pub IsStore : Instr → Type 0
IsStore (Sb rs1 rs2 imm) = ⊤
IsStore (Sh rs1 rs2 imm) = ⊤
IsStore (Sw rs1 rs2 imm) = ⊤
IsStore instr = ⊥

-- a computation on a register and an immediate
abbrev pub IsOnImmediate : Instr → Type 0
IsOnImmediate (Addi rd rs1 imm) = ⊤
IsOnImmediate (Slti rd rs1 imm) = ⊤
IsOnImmediate (Sltiu rd rs1 imm) = ⊤
IsOnImmediate (Xori rd rs1 imm) = ⊤
IsOnImmediate (Ori rd rs1 imm) = ⊤
IsOnImmediate (Andi rd rs1 imm) = ⊤
IsOnImmediate (Slli rd rs1 imm) = ⊤
IsOnImmediate (Srli rd rs1 imm) = ⊤
IsOnImmediate (Srai rd rs1 imm) = ⊤
IsOnImmediate instr = ⊥

-- a computation of the base on two registers
abbrev pub IsOnRegisters : Instr → Type 0
IsOnRegisters (Add rd rs1 rs2) = ⊤
IsOnRegisters (Sub rd rs1 rs2) = ⊤
IsOnRegisters (Sll rd rs1 rs2) = ⊤
IsOnRegisters (Slt rd rs1 rs2) = ⊤
IsOnRegisters (Sltu rd rs1 rs2) = ⊤
IsOnRegisters (Xor rd rs1 rs2) = ⊤
IsOnRegisters (Srl rd rs1 rs2) = ⊤
IsOnRegisters (Sra rd rs1 rs2) = ⊤
IsOnRegisters (Or rd rs1 rs2) = ⊤
IsOnRegisters (And rd rs1 rs2) = ⊤
IsOnRegisters instr = ⊥

-- a multiplication or a division
abbrev pub IsProduct : Instr → Type 0
IsProduct (Mul rd rs1 rs2) = ⊤
IsProduct (Mulh rd rs1 rs2) = ⊤
IsProduct (Mulhsu rd rs1 rs2) = ⊤
IsProduct (Mulhu rd rs1 rs2) = ⊤
IsProduct (Div rd rs1 rs2) = ⊤
IsProduct (Divu rd rs1 rs2) = ⊤
IsProduct (Rem rd rs1 rs2) = ⊤
IsProduct (Remu rd rs1 rs2) = ⊤
IsProduct instr = ⊥
