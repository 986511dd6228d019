-- The ranges of an instruction's fields: RISC-V unprivileged ISA, "Base Instruction Formats".
use Rattle.std.specs.Prelude.{◌<◌}
use Rattle.rv32im_table.specs.declared.instr.Instr.{Instr}
use Rattle.rv32im_table.specs.declared.instr.Instr.TheVariants.{Lui, Auipc, Jal, Jalr, Beq, Bne, Blt, Bge, Bltu, Bgeu, Lb, Lh, Lw, Lbu, Lhu, Sb, Sh, Sw, Addi, Slti, Sltiu, Xori, Ori, Andi, Slli, Srli, Srai, Add, Sub, Sll, Slt, Sltu, Xor, Srl, Sra, Or, And, Mul, Mulh, Mulhsu, Mulhu, Div, Divu, Rem, Remu, Fence, FenceI, Ecall, Ebreak}

-- register numbers are below 32, and so is the amount of a shift by an immediate
abbrev pub FieldsFit : Instr → Type 0
FieldsFit (Lui rd imm) = rd < 32
FieldsFit (Auipc rd imm) = rd < 32
FieldsFit (Jal rd imm) = rd < 32
FieldsFit (Jalr rd rs1 imm) = (rd < 32) × (rs1 < 32)
FieldsFit (Beq rs1 rs2 imm) = (rs1 < 32) × (rs2 < 32)
FieldsFit (Bne rs1 rs2 imm) = (rs1 < 32) × (rs2 < 32)
FieldsFit (Blt rs1 rs2 imm) = (rs1 < 32) × (rs2 < 32)
FieldsFit (Bge rs1 rs2 imm) = (rs1 < 32) × (rs2 < 32)
FieldsFit (Bltu rs1 rs2 imm) = (rs1 < 32) × (rs2 < 32)
FieldsFit (Bgeu rs1 rs2 imm) = (rs1 < 32) × (rs2 < 32)
FieldsFit (Lb rd rs1 imm) = (rd < 32) × (rs1 < 32)
FieldsFit (Lh rd rs1 imm) = (rd < 32) × (rs1 < 32)
FieldsFit (Lw rd rs1 imm) = (rd < 32) × (rs1 < 32)
FieldsFit (Lbu rd rs1 imm) = (rd < 32) × (rs1 < 32)
FieldsFit (Lhu rd rs1 imm) = (rd < 32) × (rs1 < 32)
FieldsFit (Sb rs1 rs2 imm) = (rs1 < 32) × (rs2 < 32)
FieldsFit (Sh rs1 rs2 imm) = (rs1 < 32) × (rs2 < 32)
FieldsFit (Sw rs1 rs2 imm) = (rs1 < 32) × (rs2 < 32)
FieldsFit (Addi rd rs1 imm) = (rd < 32) × (rs1 < 32)
FieldsFit (Slti rd rs1 imm) = (rd < 32) × (rs1 < 32)
FieldsFit (Sltiu rd rs1 imm) = (rd < 32) × (rs1 < 32)
FieldsFit (Xori rd rs1 imm) = (rd < 32) × (rs1 < 32)
FieldsFit (Ori rd rs1 imm) = (rd < 32) × (rs1 < 32)
FieldsFit (Andi rd rs1 imm) = (rd < 32) × (rs1 < 32)
FieldsFit (Slli rd rs1 imm) = (rd < 32) × (rs1 < 32) × (imm < 32)
FieldsFit (Srli rd rs1 imm) = (rd < 32) × (rs1 < 32) × (imm < 32)
FieldsFit (Srai rd rs1 imm) = (rd < 32) × (rs1 < 32) × (imm < 32)
FieldsFit (Add rd rs1 rs2) = (rd < 32) × (rs1 < 32) × (rs2 < 32)
FieldsFit (Sub rd rs1 rs2) = (rd < 32) × (rs1 < 32) × (rs2 < 32)
FieldsFit (Sll rd rs1 rs2) = (rd < 32) × (rs1 < 32) × (rs2 < 32)
FieldsFit (Slt rd rs1 rs2) = (rd < 32) × (rs1 < 32) × (rs2 < 32)
FieldsFit (Sltu rd rs1 rs2) = (rd < 32) × (rs1 < 32) × (rs2 < 32)
FieldsFit (Xor rd rs1 rs2) = (rd < 32) × (rs1 < 32) × (rs2 < 32)
FieldsFit (Srl rd rs1 rs2) = (rd < 32) × (rs1 < 32) × (rs2 < 32)
FieldsFit (Sra rd rs1 rs2) = (rd < 32) × (rs1 < 32) × (rs2 < 32)
FieldsFit (Or rd rs1 rs2) = (rd < 32) × (rs1 < 32) × (rs2 < 32)
FieldsFit (And rd rs1 rs2) = (rd < 32) × (rs1 < 32) × (rs2 < 32)
FieldsFit (Mul rd rs1 rs2) = (rd < 32) × (rs1 < 32) × (rs2 < 32)
FieldsFit (Mulh rd rs1 rs2) = (rd < 32) × (rs1 < 32) × (rs2 < 32)
FieldsFit (Mulhsu rd rs1 rs2) = (rd < 32) × (rs1 < 32) × (rs2 < 32)
FieldsFit (Mulhu rd rs1 rs2) = (rd < 32) × (rs1 < 32) × (rs2 < 32)
FieldsFit (Div rd rs1 rs2) = (rd < 32) × (rs1 < 32) × (rs2 < 32)
FieldsFit (Divu rd rs1 rs2) = (rd < 32) × (rs1 < 32) × (rs2 < 32)
FieldsFit (Rem rd rs1 rs2) = (rd < 32) × (rs1 < 32) × (rs2 < 32)
FieldsFit (Remu rd rs1 rs2) = (rd < 32) × (rs1 < 32) × (rs2 < 32)
FieldsFit Fence = Unit {0}
FieldsFit FenceI = Unit {0}
FieldsFit Ecall = Unit {0}
FieldsFit Ebreak = Unit {0}
