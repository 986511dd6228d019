-- The meaning of one instruction: RISC-V unprivileged ISA, RV32I, the M extension and Zifencei. One row an
-- instruction, over the registers and a map of bytes.
use Rattle.std.specs.Prelude.{◌≡◌, ℕ, ◌+◌, ◌-◌, ◌%◌, Bool, not, ◌==◌, nat_lt, int_lt, if◌then◌else◌, Option, Some, None, Result, Ok, Err, List, bit_and, bit_or, bit_xor}
use Rattle.rv32im_table.specs.declared.instr.Instr.{Instr}
use Rattle.rv32im_table.specs.declared.instr.Instr.TheVariants.{Lui, Auipc, Jal, Jalr, Beq, Bne, Blt, Bge, Bltu, Bgeu, Lb, Lh, Lw, Lbu, Lhu, Sb, Sh, Sw, Addi, Slti, Sltiu, Xori, Ori, Andi, Slli, Srli, Srai, Add, Sub, Sll, Slt, Sltu, Xor, Srl, Sra, Or, And, Mul, Mulh, Mulhsu, Mulhu, Div, Divu, Rem, Remu, Fence, FenceI, Ecall, Ebreak}
use Rattle.rv32im_table.specs.Immediate.{sign_extended}
use Rattle.rv32im_table.specs.Table.{decoded}
use Rattle.byte_words.specs.declared.access.Access.{Access}
use Rattle.rv32im_step.specs.declared.regs.Regs.{Regs}
use Rattle.rv32im_step.specs.declared.stop.Stop.{Stop}
use Rattle.rv32im_step.specs.declared.stop.Stop.TheVariants.{Next, Call, Trap, Refused}
use Rattle.rv32im_step.specs.Integer.{add, sub, slt, sltu, sll, srl, sra}
use Rattle.byte_words.specs.ByteMap.{Bytes}
use Rattle.rv32im_step.specs.Memory.{fetch_of, load_of, store_of, loaded, stored}
use Rattle.rv32im_step.specs.Multiply.{mul, mulh, mulhsu, mulhu, div, divu, rem, remu}
use Rattle.rv32im_step.specs.Registers.{register, with_register, following, setting}
use Rattle.rv32im_step.specs.Word.{wrap, signed}

-- what comes of one instruction: the next registers and bytes, a system call, a signal, or an access that is
-- outside the bytes, or that writes where that isn't allowed
pub data Meaning : Type 0 where
  next : Regs → Bytes → Meaning
  call : Meaning
  trap : ℕ → Meaning
  refused : Access → Meaning

-- the signals of an illegal instruction, a breakpoint and a jump to an address that isn't a multiple of 4:
-- Linux's SIGILL, SIGTRAP and SIGBUS
abbrev pub illegal : ℕ
illegal = 4

abbrev pub breakpoint : ℕ
breakpoint = 5

abbrev pub misaligned : ℕ
misaligned = 7

-- the register rd is set, and the next instruction follows
abbrev pub sets : Regs → Bytes → ℕ → ℕ → Meaning
sets regs m rd v = next (setting regs rd v) m

-- control goes to an address, which has to be a multiple of 4, with x the registers' new values
abbrev pub goes : List ℕ → Bytes → ℕ → Meaning
goes x m target = if target % 4 == 0 then next (record { pc = target; x = x }) m else trap misaligned

-- a jump: rd is set to the next instruction's address
abbrev pub jumps : Regs → Bytes → ℕ → ℕ → Meaning
jumps regs m rd target = goes (with_register regs.x rd (wrap (regs.pc + 4))) m target

-- a conditional branch to an offset from its own address
abbrev pub branches : Regs → Bytes → Bool → ℕ → Meaning
branches regs m taken offset =
    if taken then goes regs.x m (wrap (regs.pc + offset)) else next (following regs) m

-- rd is set to a number that was loaded and extended
abbrev pub sets_loaded : Regs → Bytes → ℕ → (ℕ → ℕ) → Result ℕ Access → Meaning
sets_loaded regs m rd extension (Ok n) = sets regs m rd (extension n)
sets_loaded regs m rd extension (Err access) = refused access

abbrev pub loads : Regs → Bytes → ℕ → ℕ → ℕ → (ℕ → ℕ) → Meaning
loads regs m rd addr len extension = sets_loaded regs m rd extension (loaded m (load_of regs.pc addr len))

-- the bytes change as stored
abbrev pub changes : Regs → Result Bytes Access → Meaning
changes regs (Ok m) = next (following regs) m
changes regs (Err access) = refused access

abbrev pub stores : Regs → Bytes → (ℕ → Bool) → ℕ → ℕ → ℕ → Meaning
stores regs m w addr len n = changes regs (stored m w (store_of regs.pc addr len) n)

-- a number that is wide enough, or whose upper bits are zero
abbrev pub same : ℕ → ℕ
same n = n

-- bit 0 is cleared
abbrev pub even : ℕ → ℕ
even n = n - n % 2

-- the row of an instruction; `x r` is what register number r reads as
abbrev pub row : Instr → (ℕ → ℕ) → Regs → Bytes → (ℕ → Bool) → Meaning
row (Lui rd imm) x regs m w = sets regs m rd imm
row (Auipc rd imm) x regs m w = sets regs m rd (wrap (regs.pc + imm))
row (Jal rd imm) x regs m w = jumps regs m rd (wrap (regs.pc + imm))
row (Jalr rd rs1 imm) x regs m w = jumps regs m rd (even (wrap (x rs1 + imm)))
row (Beq rs1 rs2 imm) x regs m w = branches regs m (x rs1 == x rs2) imm
row (Bne rs1 rs2 imm) x regs m w = branches regs m (not (x rs1 == x rs2)) imm
row (Blt rs1 rs2 imm) x regs m w = branches regs m (int_lt (signed (x rs1)) (signed (x rs2))) imm
row (Bge rs1 rs2 imm) x regs m w = branches regs m (not (int_lt (signed (x rs1)) (signed (x rs2)))) imm
row (Bltu rs1 rs2 imm) x regs m w = branches regs m (nat_lt (x rs1) (x rs2)) imm
row (Bgeu rs1 rs2 imm) x regs m w = branches regs m (not (nat_lt (x rs1) (x rs2))) imm
row (Lb rd rs1 imm) x regs m w = loads regs m rd (add (x rs1) imm) 1 (sign_extended 8)
row (Lh rd rs1 imm) x regs m w = loads regs m rd (add (x rs1) imm) 2 (sign_extended 16)
row (Lw rd rs1 imm) x regs m w = loads regs m rd (add (x rs1) imm) 4 same
row (Lbu rd rs1 imm) x regs m w = loads regs m rd (add (x rs1) imm) 1 same
row (Lhu rd rs1 imm) x regs m w = loads regs m rd (add (x rs1) imm) 2 same
row (Sb rs1 rs2 imm) x regs m w = stores regs m w (add (x rs1) imm) 1 (x rs2)
row (Sh rs1 rs2 imm) x regs m w = stores regs m w (add (x rs1) imm) 2 (x rs2)
row (Sw rs1 rs2 imm) x regs m w = stores regs m w (add (x rs1) imm) 4 (x rs2)
row (Addi rd rs1 imm) x regs m w = sets regs m rd (add (x rs1) imm)
row (Slti rd rs1 imm) x regs m w = sets regs m rd (slt (x rs1) imm)
row (Sltiu rd rs1 imm) x regs m w = sets regs m rd (sltu (x rs1) imm)
row (Xori rd rs1 imm) x regs m w = sets regs m rd (bit_xor (x rs1) imm)
row (Ori rd rs1 imm) x regs m w = sets regs m rd (bit_or (x rs1) imm)
row (Andi rd rs1 imm) x regs m w = sets regs m rd (bit_and (x rs1) imm)
row (Slli rd rs1 imm) x regs m w = sets regs m rd (sll (x rs1) imm)
row (Srli rd rs1 imm) x regs m w = sets regs m rd (srl (x rs1) imm)
row (Srai rd rs1 imm) x regs m w = sets regs m rd (sra (x rs1) imm)
row (Add rd rs1 rs2) x regs m w = sets regs m rd (add (x rs1) (x rs2))
row (Sub rd rs1 rs2) x regs m w = sets regs m rd (sub (x rs1) (x rs2))
row (Sll rd rs1 rs2) x regs m w = sets regs m rd (sll (x rs1) (x rs2))
row (Slt rd rs1 rs2) x regs m w = sets regs m rd (slt (x rs1) (x rs2))
row (Sltu rd rs1 rs2) x regs m w = sets regs m rd (sltu (x rs1) (x rs2))
row (Xor rd rs1 rs2) x regs m w = sets regs m rd (bit_xor (x rs1) (x rs2))
row (Srl rd rs1 rs2) x regs m w = sets regs m rd (srl (x rs1) (x rs2))
row (Sra rd rs1 rs2) x regs m w = sets regs m rd (sra (x rs1) (x rs2))
row (Or rd rs1 rs2) x regs m w = sets regs m rd (bit_or (x rs1) (x rs2))
row (And rd rs1 rs2) x regs m w = sets regs m rd (bit_and (x rs1) (x rs2))
row (Mul rd rs1 rs2) x regs m w = sets regs m rd (mul (x rs1) (x rs2))
row (Mulh rd rs1 rs2) x regs m w = sets regs m rd (mulh (x rs1) (x rs2))
row (Mulhsu rd rs1 rs2) x regs m w = sets regs m rd (mulhsu (x rs1) (x rs2))
row (Mulhu rd rs1 rs2) x regs m w = sets regs m rd (mulhu (x rs1) (x rs2))
row (Div rd rs1 rs2) x regs m w = sets regs m rd (div (x rs1) (x rs2))
row (Divu rd rs1 rs2) x regs m w = sets regs m rd (divu (x rs1) (x rs2))
row (Rem rd rs1 rs2) x regs m w = sets regs m rd (rem (x rs1) (x rs2))
row (Remu rd rs1 rs2) x regs m w = sets regs m rd (remu (x rs1) (x rs2))
row Fence x regs m w = next (following regs) m
row FenceI x regs m w = next (following regs) m
row Ecall x regs m w = call
row Ebreak x regs m w = trap breakpoint

unfoldable pub effect : Instr → Regs → Bytes → (ℕ → Bool) → Meaning
effect instr regs m w = row instr (register regs.x) regs m w

-- ---- a step

abbrev pub decoded_word : Result ℕ Access → Result (Option Instr) Access
decoded_word (Ok word) = Ok (decoded word)
decoded_word (Err access) = Err access

-- the instruction that an access fetches, if the word is one
unfoldable pub decoded_at : Bytes → Access → Result (Option Instr) Access
decoded_at m access = decoded_word (loaded m access)

-- a word without a row is an illegal instruction
abbrev pub decoded_effect : Option Instr → Regs → Bytes → (ℕ → Bool) → Meaning
decoded_effect (Some instr) regs m w = effect instr regs m w
decoded_effect None regs m w = trap illegal

abbrev pub fetched_effect : Result ℕ Access → Regs → Bytes → (ℕ → Bool) → Meaning
fetched_effect (Ok word) regs m w = decoded_effect (decoded word) regs m w
fetched_effect (Err access) regs m w = refused access

-- one step: four bytes are fetched at pc, decoded and carried out; `w` tells the bytes that may be written
unfoldable pub meaning : Regs → Bytes → (ℕ → Bool) → Meaning
meaning regs m w = fetched_effect (loaded m (fetch_of regs.pc)) regs m w

-- how a step ended and what it left is as its meaning says: only `next` changes anything
abbrev pub Means : Meaning → Regs → Regs → Bytes → Bytes → Stop → Type 0
Means (next regs' m') regs after m now stop = (after ≡ regs') × (now ≡ m') × (stop ≡ Next)
Means call regs after m now stop = (after ≡ regs) × (now ≡ m) × (stop ≡ Call)
Means (trap signal) regs after m now stop = (after ≡ regs) × (now ≡ m) × (stop ≡ Trap signal)
Means (refused access) regs after m now stop = (after ≡ regs) × (now ≡ m) × (stop ≡ Refused access)
