-- The instruction table: RISC-V unprivileged ISA, "RV32/64G Instruction Set Listings".
use Rattle.std.specs.Prelude.{ℕ, Bool, Option, Some, None, List, [], ◌∷◌, ◌++◌, ◌==◌, ◌&&◌, if◌then◌else◌}
use Rattle.rv32im_table.specs.declared.instr.Instr.{Instr}
use Rattle.rv32im_table.specs.declared.instr.Instr.TheVariants.{Lui, Auipc, Jal, Jalr, Beq, Bne, Blt, Bge, Bltu, Bgeu, Lb, Lh, Lw, Lbu, Lhu, Sb, Sh, Sw, Addi, Slti, Sltiu, Xori, Ori, Andi, Slli, Srli, Srai, Add, Sub, Sll, Slt, Sltu, Xor, Srl, Sra, Or, And, Mul, Mulh, Mulhsu, Mulhu, Div, Divu, Rem, Remu, Fence, FenceI, Ecall, Ebreak}
use Rattle.rv32im_table.specs.Field.{opcode, rd, funct3, rs1, rs2, shamt, funct7}
use Rattle.rv32im_table.specs.Immediate.{imm_i, imm_s, imm_b, imm_u, imm_j}

-- what a word must have to be of a row: its opcode, with funct3 and funct7 where they count, or all its bits
pub data Key : Type 0 where
  by_opcode : ℕ → Key
  by_funct3 : ℕ → ℕ → Key
  by_funct7 : ℕ → ℕ → ℕ → Key
  by_word : ℕ → ℕ → Key

abbrev pub has_key : Key → ℕ → Bool
has_key (by_opcode op) w = opcode w == op
has_key (by_funct3 op f3) w = opcode w == op && funct3 w == f3
has_key (by_funct7 op f3 f7) w = opcode w == op && (funct3 w == f3 && funct7 w == f7)
has_key (by_word op all) w = opcode w == op && w == all

-- a row: which words are of it, and the instruction that such a word is
pub record Row : Type 0 where
  pub key : Key
  pub instr : ℕ → Instr

abbrev row : Key → (ℕ → Instr) → Row
row key instr = record { key = key; instr = instr }

-- the formats: which fields of the word an instruction has
abbrev r_type : (ℕ → ℕ → ℕ → Instr) → ℕ → Instr
r_type make w = make (rd w) (rs1 w) (rs2 w)

abbrev i_type : (ℕ → ℕ → ℕ → Instr) → ℕ → Instr
i_type make w = make (rd w) (rs1 w) (imm_i w)

abbrev shift_type : (ℕ → ℕ → ℕ → Instr) → ℕ → Instr
shift_type make w = make (rd w) (rs1 w) (shamt w)

abbrev s_type : (ℕ → ℕ → ℕ → Instr) → ℕ → Instr
s_type make w = make (rs1 w) (rs2 w) (imm_s w)

abbrev b_type : (ℕ → ℕ → ℕ → Instr) → ℕ → Instr
b_type make w = make (rs1 w) (rs2 w) (imm_b w)

abbrev u_type : (ℕ → ℕ → Instr) → ℕ → Instr
u_type make w = make (rd w) (imm_u w)

abbrev j_type : (ℕ → ℕ → Instr) → ℕ → Instr
j_type make w = make (rd w) (imm_j w)

abbrev plain : Instr → ℕ → Instr
plain instr w = instr

abbrev pub upper_rows : List Row
upper_rows =
    row (by_opcode 0x37) (u_type Lui) ∷
    row (by_opcode 0x17) (u_type Auipc) ∷
    []

abbrev pub jump_rows : List Row
jump_rows =
    row (by_opcode 0x6f) (j_type Jal) ∷
    row (by_funct3 0x67 0) (i_type Jalr) ∷
    []

abbrev pub branch_rows : List Row
branch_rows =
    row (by_funct3 0x63 0) (b_type Beq) ∷
    row (by_funct3 0x63 1) (b_type Bne) ∷
    row (by_funct3 0x63 4) (b_type Blt) ∷
    row (by_funct3 0x63 5) (b_type Bge) ∷
    row (by_funct3 0x63 6) (b_type Bltu) ∷
    row (by_funct3 0x63 7) (b_type Bgeu) ∷
    []

abbrev pub load_rows : List Row
load_rows =
    row (by_funct3 0x03 0) (i_type Lb) ∷
    row (by_funct3 0x03 1) (i_type Lh) ∷
    row (by_funct3 0x03 2) (i_type Lw) ∷
    row (by_funct3 0x03 4) (i_type Lbu) ∷
    row (by_funct3 0x03 5) (i_type Lhu) ∷
    []

abbrev pub store_rows : List Row
store_rows =
    row (by_funct3 0x23 0) (s_type Sb) ∷
    row (by_funct3 0x23 1) (s_type Sh) ∷
    row (by_funct3 0x23 2) (s_type Sw) ∷
    []

abbrev pub op_imm_rows : List Row
op_imm_rows =
    row (by_funct3 0x13 0) (i_type Addi) ∷
    row (by_funct3 0x13 2) (i_type Slti) ∷
    row (by_funct3 0x13 3) (i_type Sltiu) ∷
    row (by_funct3 0x13 4) (i_type Xori) ∷
    row (by_funct3 0x13 6) (i_type Ori) ∷
    row (by_funct3 0x13 7) (i_type Andi) ∷
    row (by_funct7 0x13 1 0x00) (shift_type Slli) ∷
    row (by_funct7 0x13 5 0x00) (shift_type Srli) ∷
    row (by_funct7 0x13 5 0x20) (shift_type Srai) ∷
    []

abbrev pub op_rows : List Row
op_rows =
    row (by_funct7 0x33 0 0x00) (r_type Add) ∷
    row (by_funct7 0x33 0 0x20) (r_type Sub) ∷
    row (by_funct7 0x33 1 0x00) (r_type Sll) ∷
    row (by_funct7 0x33 2 0x00) (r_type Slt) ∷
    row (by_funct7 0x33 3 0x00) (r_type Sltu) ∷
    row (by_funct7 0x33 4 0x00) (r_type Xor) ∷
    row (by_funct7 0x33 5 0x00) (r_type Srl) ∷
    row (by_funct7 0x33 5 0x20) (r_type Sra) ∷
    row (by_funct7 0x33 6 0x00) (r_type Or) ∷
    row (by_funct7 0x33 7 0x00) (r_type And) ∷
    row (by_funct7 0x33 0 0x01) (r_type Mul) ∷
    row (by_funct7 0x33 1 0x01) (r_type Mulh) ∷
    row (by_funct7 0x33 2 0x01) (r_type Mulhsu) ∷
    row (by_funct7 0x33 3 0x01) (r_type Mulhu) ∷
    row (by_funct7 0x33 4 0x01) (r_type Div) ∷
    row (by_funct7 0x33 5 0x01) (r_type Divu) ∷
    row (by_funct7 0x33 6 0x01) (r_type Rem) ∷
    row (by_funct7 0x33 7 0x01) (r_type Remu) ∷
    []

abbrev pub fence_rows : List Row
fence_rows =
    row (by_funct3 0x0f 0) (plain Fence) ∷
    row (by_funct3 0x0f 1) (plain FenceI) ∷
    []

abbrev pub system_rows : List Row
system_rows =
    row (by_word 0x73 0x00000073) (plain Ecall) ∷
    row (by_word 0x73 0x00100073) (plain Ebreak) ∷
    []

abbrev pub table : List Row
table =
    upper_rows ++ jump_rows ++ branch_rows ++ load_rows ++ store_rows ++ op_imm_rows ++ op_rows ++ fence_rows ++
    system_rows

-- the instruction of the first of these rows that a word is of
abbrev pub found : List Row → ℕ → Option Instr
found [] w = None
found (r ∷ rs) w = if has_key r.key w then Some (r.instr w) else found rs w

-- the instruction that a word is, if the table has a row for it
unfoldable pub decoded : ℕ → Option Instr
decoded w = found table w
