-- The signals of instructions are small numbers.
use Rattle.std.proofs.Common.{◌≡◌, ℕ, ◌+◌, ◌%◌, ◌<◌, ◌^◌, Bool, true, false, List, arith, subst}
use Rattle.std.specs.Prelude.{not, ◌==◌, nat_lt, int_lt, if◌then◌else◌, Option, Some, None, Result, Ok, Err}
use Rattle.byte_words.specs.ByteMap.{Bytes}
use Rattle.rv32im_table.specs.declared.instr.Instr.{Instr}
use Rattle.rv32im_table.specs.declared.instr.Instr.TheVariants.{Jal, Jalr, Beq, Bne, Blt, Bge, Bltu, Bgeu, Lb, Lh, Lw, Lbu, Lhu, Sb, Sh, Sw, Ebreak}
use Rattle.rv32im_table.specs.Table.{decoded}
use Rattle.rv32im_table.specs.Immediate.{sign_extended}
use Rattle.byte_words.specs.declared.access.Access.{Access}
use Rattle.rv32im_step.specs.declared.regs.Regs.{Regs}
use Rattle.rv32im_step.specs.Integer.{add}
use Rattle.rv32im_step.specs.Registers.{with_register}
use Rattle.rv32im_step.specs.Word.{wrap, signed}
use Rattle.rv32im_step.specs.Memory.{fetch_of, load_of, store_of, loaded, stored}
use Rattle.rv32im_step.specs.Meaning.{Meaning, next, trap, misaligned, goes, jumps, branches, sets_loaded, loads, changes, stores, same, even, row, effect, decoded_effect, fetched_effect, meaning}

abbrev Small : Meaning → Type 0
Small (trap signal) = signal < 2 ^ 8
Small other = Unit {0}

small_goes : (x : List ℕ) (m : Bytes) (target : ℕ) → Small (goes x m target)
small_goes x m target = tested (target % 4 == 0)
  where
    tested : (test : Bool) → Small (if test then next (record { pc = target; x = x }) m else trap misaligned)
    tested true = tt
    tested false = omega arith

small_jumps : (regs : Regs) (m : Bytes) (rd target : ℕ) → Small (jumps regs m rd target)
small_jumps regs m rd target = small_goes (with_register regs.x rd (wrap (regs.pc + 4))) m target

small_branches : (regs : Regs) (m : Bytes) (taken : Bool) (offset : ℕ) → Small (branches regs m taken offset)
small_branches regs m true offset = small_goes regs.x m (wrap (regs.pc + offset))
small_branches regs m false offset = tt

small_loaded : (regs : Regs) (m : Bytes) (rd : ℕ) (extension : ℕ → ℕ) (r : Result ℕ Access) → Small (sets_loaded regs m rd extension r)
small_loaded regs m rd extension (Ok n) = tt
small_loaded regs m rd extension (Err access) = tt

small_loads : (regs : Regs) (m : Bytes) (rd addr len : ℕ) (extension : ℕ → ℕ) → Small (loads regs m rd addr len extension)
small_loads regs m rd addr len extension = small_loaded regs m rd extension (loaded m (load_of regs.pc addr len))

small_changes : (regs : Regs) (r : Result Bytes Access) → Small (changes regs r)
small_changes regs (Ok m) = tt
small_changes regs (Err access) = tt

small_stores : (regs : Regs) (m : Bytes) (w : ℕ → Bool) (addr len n : ℕ) → Small (stores regs m w addr len n)
small_stores regs m w addr len n = small_changes regs (stored m w (store_of regs.pc addr len) n)

small_row : (instr : Instr) (x : ℕ → ℕ) (regs : Regs) (m : Bytes) (w : ℕ → Bool) → Small (row instr x regs m w)
small_row (Jal rd imm) x regs m w = small_jumps regs m rd (wrap (regs.pc + imm))
small_row (Jalr rd rs1 imm) x regs m w = small_jumps regs m rd (even (wrap (x rs1 + imm)))
small_row (Beq rs1 rs2 imm) x regs m w = small_branches regs m (x rs1 == x rs2) imm
small_row (Bne rs1 rs2 imm) x regs m w = small_branches regs m (not (x rs1 == x rs2)) imm
small_row (Blt rs1 rs2 imm) x regs m w = small_branches regs m (int_lt (signed (x rs1)) (signed (x rs2))) imm
small_row (Bge rs1 rs2 imm) x regs m w = small_branches regs m (not (int_lt (signed (x rs1)) (signed (x rs2)))) imm
small_row (Bltu rs1 rs2 imm) x regs m w = small_branches regs m (nat_lt (x rs1) (x rs2)) imm
small_row (Bgeu rs1 rs2 imm) x regs m w = small_branches regs m (not (nat_lt (x rs1) (x rs2))) imm
small_row (Lb rd rs1 imm) x regs m w = small_loads regs m rd (add (x rs1) imm) 1 (sign_extended 8)
small_row (Lh rd rs1 imm) x regs m w = small_loads regs m rd (add (x rs1) imm) 2 (sign_extended 16)
small_row (Lw rd rs1 imm) x regs m w = small_loads regs m rd (add (x rs1) imm) 4 same
small_row (Lbu rd rs1 imm) x regs m w = small_loads regs m rd (add (x rs1) imm) 1 same
small_row (Lhu rd rs1 imm) x regs m w = small_loads regs m rd (add (x rs1) imm) 2 same
small_row (Sb rs1 rs2 imm) x regs m w = small_stores regs m w (add (x rs1) imm) 1 (x rs2)
small_row (Sh rs1 rs2 imm) x regs m w = small_stores regs m w (add (x rs1) imm) 2 (x rs2)
small_row (Sw rs1 rs2 imm) x regs m w = small_stores regs m w (add (x rs1) imm) 4 (x rs2)
small_row Ebreak x regs m w = omega arith
small_row other x regs m w = tt

small_decoded : (instr : Option Instr) (regs : Regs) (m : Bytes) (w : ℕ → Bool) → Small (decoded_effect instr regs m w)
unfolding effect
small_decoded (Some instr) regs m w = small_row instr _ regs m w
small_decoded None regs m w = omega arith

small_fetched : (r : Result ℕ Access) (regs : Regs) (m : Bytes) (w : ℕ → Bool) → Small (fetched_effect r regs m w)
small_fetched (Ok word) regs m w = small_decoded (decoded word) regs m w
small_fetched (Err access) regs m w = tt

small_meaning : (regs : Regs) (m : Bytes) (w : ℕ → Bool) → Small (meaning regs m w)
unfolding meaning
small_meaning regs m w = small_fetched (loaded m (fetch_of regs.pc)) regs m w

pub trap_small : (regs : Regs) (m : Bytes) (w : ℕ → Bool) (signal : ℕ) → meaning regs m w ≡ trap signal → signal < 2 ^ 8
trap_small regs m w signal is = subst Small is (small_meaning regs m w)
