-- What an instruction leaves of the map.
use Rattle.std.proofs.Common.{◌≡◌, ℕ, zero, suc, ◌+◌, ◌/◌, ◌%◌, ◌^◌, Bool, true, false, List, arith, refl, subst}
use Rattle.std.specs.Prelude.{not, ◌==◌, ◌&&◌, nat_le, nat_lt, int_lt, is_some, if◌then◌else◌, Option, Some, None, Result, Ok, Err}
use Rattle.std.proofs.lemmas.Bool.Decides.{nat_tests}
use Rattle.rv32im_table.specs.declared.instr.Instr.{Instr}
use Rattle.rv32im_table.specs.declared.instr.Instr.TheVariants.{Lui, Auipc, Jal, Jalr, Beq, Bne, Blt, Bge, Bltu, Bgeu, Lb, Lh, Lw, Lbu, Lhu, Sb, Sh, Sw, Addi, Slti, Sltiu, Xori, Ori, Andi, Slli, Srli, Srai, Add, Sub, Sll, Slt, Sltu, Xor, Srl, Sra, Or, And, Mul, Mulh, Mulhsu, Mulhu, Div, Divu, Rem, Remu, Fence, FenceI, Ecall, Ebreak}
use Rattle.rv32im_table.specs.Table.{decoded}
use Rattle.byte_words.specs.declared.access.Access.{Access}
use Rattle.rv32im_step.specs.declared.regs.Regs.{Regs}
use Rattle.rv32im_table.specs.Immediate.{sign_extended}
use Rattle.rv32im_step.specs.Integer.{add}
use Rattle.rv32im_step.specs.Registers.{with_register, following}
use Rattle.rv32im_step.specs.Word.{wrap, signed}
use Rattle.rv32im_step.specs.Meaning.{Meaning, next, call, trap, refused, misaligned, goes, jumps, branches, sets_loaded, loads, stores, same, even, changes, row, effect, decoded_effect, fetched_effect, meaning}
use Rattle.byte_words.specs.ByteMap.{Bytes, little_bytes, with_byte, with_bytes}
use Rattle.rv32im_step.specs.Memory.{fetch_of, load_of, store_of, loaded, all_writable, stored}

-- the map has the same bytes, and those that may not be written are as they were
pub record Keeps (m : Bytes) (w : ℕ → Bool) (now : Bytes) : Type 0 where
  pub there : (i : ℕ) → is_some (now i) ≡ is_some (m i)
  pub unwritable : (i : ℕ) → w i ≡ false → now i ≡ m i

abbrev pub KeepsOthers : Bytes → (ℕ → Bool) → Meaning → Type 0
KeepsOthers m w (next regs now) = Keeps m w now
KeepsOthers m w call = Unit {0}
KeepsOthers m w (trap signal) = Unit {0}
KeepsOthers m w (refused access) = Unit {0}

untouched : (m : Bytes) (w : ℕ → Bool) → Keeps m w m
untouched m w = record { there = λ i. refl; unwritable = λ i locked. refl }

-- ---- the bytes written

there_on :
    (m now : Bytes) (addr b i : ℕ) → is_some (now i) ≡ is_some (m i) → is_some (m addr) ≡ true →
    is_some (with_byte now addr b i) ≡ is_some (m i)
there_on m now addr b i before is = grind (arith, nat_tests)

unwritable_on :
    (m : Bytes) (w : ℕ → Bool) (now : Bytes) (addr b i : ℕ) → now i ≡ m i → w addr ≡ true → w i ≡ false →
    with_byte now addr b i ≡ m i
unwritable_on m w now addr b i before may locked = grind (arith, nat_tests)

all_true : (a b c : Bool) → (a && b && c) ≡ true → (a ≡ true) × (b ≡ true) × (c ≡ true)
all_true true true true is = (refl, refl, refl)
all_true true true false is = absurd (cc)
all_true true false c is = absurd (cc)
all_true false b c is = absurd (cc)

keeps_written :
    (m : Bytes) (w : ℕ → Bool) (addr len n : ℕ) → all_writable m w addr len ≡ true →
    Keeps m w (with_bytes m addr (little_bytes len n))
keeps_written m w addr zero n may = untouched m w
keeps_written m w addr (suc len) n may =
    let first = all_true (is_some (m addr)) (w addr) (all_writable m w (addr + 1) len) may in
    let later = keeps_written m w (addr + 1) len (n / 256) first.2 in
    record {
      there = λ i. there_on m (with_bytes m (addr + 1) (little_bytes len (n / 256))) addr (n % 256) i (later.there i) first.0;
      unwritable = λ i locked. unwritable_on m w (with_bytes m (addr + 1) (little_bytes len (n / 256))) addr (n % 256) i (later.unwritable i locked) first.1 locked;
    }

-- ---- the parts of a row

kept_if :
    (m : Bytes) (w : ℕ → Bool) (test : Bool) (a b : Meaning) → KeepsOthers m w a → KeepsOthers m w b → KeepsOthers m w (if test then a else b)
kept_if m w true a b first second = first
kept_if m w false a b first second = second

kept_goes : (x : List ℕ) (m : Bytes) (w : ℕ → Bool) (target : ℕ) → KeepsOthers m w (goes x m target)
kept_goes x m w target = kept_if m w (target % 4 == 0) (next (record { pc = target; x = x }) m) (trap misaligned) (untouched m w) tt

kept_jumps : (regs : Regs) (m : Bytes) (w : ℕ → Bool) (rd target : ℕ) → KeepsOthers m w (jumps regs m rd target)
kept_jumps regs m w rd target = kept_goes (with_register regs.x rd (wrap (regs.pc + 4))) m w target

kept_branches :
    (regs : Regs) (m : Bytes) (w : ℕ → Bool) (taken : Bool) (offset : ℕ) → KeepsOthers m w (branches regs m taken offset)
kept_branches regs m w taken offset =
    kept_if m w taken (goes regs.x m (wrap (regs.pc + offset))) (next (following regs) m)
    (kept_goes regs.x m w (wrap (regs.pc + offset))) (untouched m w)

kept_loaded :
    (regs : Regs) (m : Bytes) (w : ℕ → Bool) (rd : ℕ) (extension : ℕ → ℕ) (r : Result ℕ Access) →
    KeepsOthers m w (sets_loaded regs m rd extension r)
kept_loaded regs m w rd extension (Ok n) = untouched m w
kept_loaded regs m w rd extension (Err access) = tt

kept_loads :
    (regs : Regs) (m : Bytes) (w : ℕ → Bool) (rd addr len : ℕ) (extension : ℕ → ℕ) →
    KeepsOthers m w (loads regs m rd addr len extension)
kept_loads regs m w rd addr len extension = kept_loaded regs m w rd extension (loaded m (load_of regs.pc addr len))

kept_stored :
    (regs : Regs) (m : Bytes) (w : ℕ → Bool) (access : Access) (n : ℕ) → KeepsOthers m w (changes regs (stored m w access n))
unfolding stored
kept_stored regs m w access n =
    tested (nat_le (access.addr + access.len) (2 ^ 32)) (all_writable m w access.addr access.len) refl
  where
    tested :
        (fits may : Bool) → all_writable m w access.addr access.len ≡ may →
        KeepsOthers m w (changes regs (if fits && may then Ok (with_bytes m access.addr (little_bytes access.len n)) else Err access))
    tested true true is = keeps_written m w access.addr access.len n is
    tested true false is = tt
    tested false may is = tt

kept_stores : (regs : Regs) (m : Bytes) (w : ℕ → Bool) (addr len n : ℕ) → KeepsOthers m w (stores regs m w addr len n)
kept_stores regs m w addr len n = kept_stored regs m w (store_of regs.pc addr len) n

-- ---- the rows

kept_row : (instr : Instr) (x : ℕ → ℕ) (regs : Regs) (m : Bytes) (w : ℕ → Bool) → KeepsOthers m w (row instr x regs m w)
kept_row (Lui rd imm) x regs m w = untouched m w
kept_row (Auipc rd imm) x regs m w = untouched m w
kept_row (Jal rd imm) x regs m w = kept_jumps regs m w rd (wrap (regs.pc + imm))
kept_row (Jalr rd rs1 imm) x regs m w = kept_jumps regs m w rd (even (wrap (x rs1 + imm)))
kept_row (Beq rs1 rs2 imm) x regs m w = kept_branches regs m w (x rs1 == x rs2) imm
kept_row (Bne rs1 rs2 imm) x regs m w = kept_branches regs m w (not (x rs1 == x rs2)) imm
kept_row (Blt rs1 rs2 imm) x regs m w = kept_branches regs m w (int_lt (signed (x rs1)) (signed (x rs2))) imm
kept_row (Bge rs1 rs2 imm) x regs m w = kept_branches regs m w (not (int_lt (signed (x rs1)) (signed (x rs2)))) imm
kept_row (Bltu rs1 rs2 imm) x regs m w = kept_branches regs m w (nat_lt (x rs1) (x rs2)) imm
kept_row (Bgeu rs1 rs2 imm) x regs m w = kept_branches regs m w (not (nat_lt (x rs1) (x rs2))) imm
kept_row (Lb rd rs1 imm) x regs m w = kept_loads regs m w rd (add (x rs1) imm) 1 (sign_extended 8)
kept_row (Lh rd rs1 imm) x regs m w = kept_loads regs m w rd (add (x rs1) imm) 2 (sign_extended 16)
kept_row (Lw rd rs1 imm) x regs m w = kept_loads regs m w rd (add (x rs1) imm) 4 same
kept_row (Lbu rd rs1 imm) x regs m w = kept_loads regs m w rd (add (x rs1) imm) 1 same
kept_row (Lhu rd rs1 imm) x regs m w = kept_loads regs m w rd (add (x rs1) imm) 2 same
kept_row (Sb rs1 rs2 imm) x regs m w = kept_stores regs m w (add (x rs1) imm) 1 (x rs2)
kept_row (Sh rs1 rs2 imm) x regs m w = kept_stores regs m w (add (x rs1) imm) 2 (x rs2)
kept_row (Sw rs1 rs2 imm) x regs m w = kept_stores regs m w (add (x rs1) imm) 4 (x rs2)
kept_row (Addi rd rs1 imm) x regs m w = untouched m w
kept_row (Slti rd rs1 imm) x regs m w = untouched m w
kept_row (Sltiu rd rs1 imm) x regs m w = untouched m w
kept_row (Xori rd rs1 imm) x regs m w = untouched m w
kept_row (Ori rd rs1 imm) x regs m w = untouched m w
kept_row (Andi rd rs1 imm) x regs m w = untouched m w
kept_row (Slli rd rs1 imm) x regs m w = untouched m w
kept_row (Srli rd rs1 imm) x regs m w = untouched m w
kept_row (Srai rd rs1 imm) x regs m w = untouched m w
kept_row (Add rd rs1 rs2) x regs m w = untouched m w
kept_row (Sub rd rs1 rs2) x regs m w = untouched m w
kept_row (Sll rd rs1 rs2) x regs m w = untouched m w
kept_row (Slt rd rs1 rs2) x regs m w = untouched m w
kept_row (Sltu rd rs1 rs2) x regs m w = untouched m w
kept_row (Xor rd rs1 rs2) x regs m w = untouched m w
kept_row (Srl rd rs1 rs2) x regs m w = untouched m w
kept_row (Sra rd rs1 rs2) x regs m w = untouched m w
kept_row (Or rd rs1 rs2) x regs m w = untouched m w
kept_row (And rd rs1 rs2) x regs m w = untouched m w
kept_row (Mul rd rs1 rs2) x regs m w = untouched m w
kept_row (Mulh rd rs1 rs2) x regs m w = untouched m w
kept_row (Mulhsu rd rs1 rs2) x regs m w = untouched m w
kept_row (Mulhu rd rs1 rs2) x regs m w = untouched m w
kept_row (Div rd rs1 rs2) x regs m w = untouched m w
kept_row (Divu rd rs1 rs2) x regs m w = untouched m w
kept_row (Rem rd rs1 rs2) x regs m w = untouched m w
kept_row (Remu rd rs1 rs2) x regs m w = untouched m w
kept_row Fence x regs m w = untouched m w
kept_row FenceI x regs m w = untouched m w
kept_row Ecall x regs m w = tt
kept_row Ebreak x regs m w = tt

kept_decoded :
    (instr : Option Instr) (regs : Regs) (m : Bytes) (w : ℕ → Bool) → KeepsOthers m w (decoded_effect instr regs m w)
unfolding effect
kept_decoded (Some instr) regs m w = kept_row instr _ regs m w
kept_decoded None regs m w = tt

kept_fetched :
    (r : Result ℕ Access) (regs : Regs) (m : Bytes) (w : ℕ → Bool) → KeepsOthers m w (fetched_effect r regs m w)
kept_fetched (Ok word) regs m w = kept_decoded (decoded word) regs m w
kept_fetched (Err access) regs m w = tt

kept_meaning : (regs : Regs) (m : Bytes) (w : ℕ → Bool) → KeepsOthers m w (meaning regs m w)
unfolding meaning
kept_meaning regs m w = kept_fetched (loaded m (fetch_of regs.pc)) regs m w

pub keeps :
    (regs after : Regs) (m now : Bytes) (w : ℕ → Bool) → meaning regs m w ≡ next after now → Keeps m w now
keeps regs after m now w is = subst (λ (x : Meaning). KeepsOthers m w x) is (kept_meaning regs m w)
