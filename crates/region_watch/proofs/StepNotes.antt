-- In a run that halts a step sees a stray access exactly where it ends with it.
use Rattle.std.proofs.Common.{◌≡◌, ℕ, List, [], ◌∷◌, length, ◌+◌, ◌*◌, ◌%◌, ◌^◌, ◌<◌, arith, Bool, true, false, refl, ap, ◌∙◌}
use Rattle.std.specs.Prelude.{not, ◌==◌, ◌&&◌, nat_le, nat_lt, int_lt, is_ok, if◌then◌else◌, Option, Some, None, Result, Ok, Err}
use Rattle.rv32im_table.specs.declared.instr.Instr.{Instr}
use Rattle.rv32im_table.specs.declared.instr.Instr.TheVariants.{Lui, Auipc, Jal, Jalr, Beq, Bne, Blt, Bge, Bltu, Bgeu, Lb, Lh, Lw, Lbu, Lhu, Sb, Sh, Sw, Addi, Slti, Sltiu, Xori, Ori, Andi, Slli, Srli, Srai, Add, Sub, Sll, Slt, Sltu, Xor, Srl, Sra, Or, And, Mul, Mulh, Mulhsu, Mulhu, Div, Divu, Rem, Remu, Fence, FenceI, Ecall, Ebreak}
use Rattle.rv32im_table.specs.Table.{decoded}
use Rattle.rv32im_table.specs.Immediate.{sign_extended}
use Rattle.byte_words.specs.declared.access.Access.{Access}
use Rattle.rv32im_step.specs.declared.regs.Regs.{Regs}
use Rattle.rv32im_step.specs.declared.stop.Stop.{Stop}
use Rattle.rv32im_step.specs.Asked.{reads, writes, data_asked, effect_asked, decoded_asked, fetched_asked, asked, Asked}
use Rattle.rv32im_step.specs.Integer.{add}
use Rattle.rv32im_step.specs.Registers.{with_register, following}
use Rattle.rv32im_step.specs.Word.{wrap, signed}
use Rattle.rv32im_step.specs.Meaning.{Meaning, next, call, trap, refused, misaligned, goes, jumps, branches, sets_loaded, loads, stores, same, even, changes, row, effect, decoded_effect, fetched_effect, meaning, Means}
use Rattle.byte_words.specs.ByteMap.{Bytes, little_bytes, with_bytes}
use Rattle.rv32im_step.specs.Memory.{fetch_of, load_of, store_of, or_refused, reading, loaded, all_writable, stored}
use Rattle.mmap_rules.specs.declared.page_owner.PageOwner.{PageOwner}
use Rattle.mmap_rules.specs.Space.{may_use}
use Rattle.mmap_rules.specs.Owners.{owns}
use Rattle.region_watch.specs.declared.mode.Mode.{Mode}
use Rattle.region_watch.specs.declared.mode.Mode.TheVariants.{Halt}
use Rattle.region_watch.specs.Private.{own_bytes, passes, passed_bytes}
use Rattle.region_watch.specs.Strays.{allows, stray_after, stray_after_all, stray_after_stop}
use Rattle.region_watch.proofs.Notes.{stray_after_allowed}
use Rattle.region_watch.proofs.Accesses.{passed_loaded, refused_loaded, passed_stored, refused_stored}

-- ---- what is carried out is what the table allows

-- the first access that was refused
abbrev stray_after_done : Option Access → List Asked → Option Access
stray_after_done first [] = first
stray_after_done first (one ∷ more) = stray_after_done (stray_after first one.access one.done) more

-- each access is carried out exactly where the table allows it
abbrev Told : List PageOwner → List Asked → Type 0
Told table [] = Unit {0}
Told table (one ∷ more) = (one.done ≡ allows table one.access) × Told table more

told_same : (table : List PageOwner) (xs : List Asked) (f : Option Access) → Told table xs → stray_after_all table f xs ≡ stray_after_done f xs
told_same table [] f told = refl
told_same table (x ∷ xs) f told = rw (told.0) (told_same table xs (stray_after f x.access (allows table x.access)) told.1)

told_read : (table : List PageOwner) (mem : List ℕ) (access : Access) → length mem ≡ 4096 * length table → 0 < access.len
    → is_ok (loaded (own_bytes table mem) access) ≡ may_use (owns table false) access.addr access.len
told_read table mem access paged some = by (may_use (owns table false) access.addr access.len) refl
  where
    by : (test : Bool) → may_use (owns table false) access.addr access.len ≡ test → is_ok (loaded (own_bytes table mem) access) ≡ may_use (owns table false) access.addr access.len
    by true is = rw (passed_loaded Halt table mem access paged some is, is) refl
    by false is = rw (refused_loaded Halt table mem access is, is) refl

told_write : (table : List PageOwner) (mem : List ℕ) (access : Access) (n : ℕ) → length mem ≡ 4096 * length table → 0 < access.len
    → is_ok (stored (own_bytes table mem) (owns table true) access n) ≡ may_use (owns table true) access.addr access.len
told_write table mem access n paged some = by (may_use (owns table true) access.addr access.len) refl
  where
    by : (test : Bool) → may_use (owns table true) access.addr access.len ≡ test → is_ok (stored (own_bytes table mem) (owns table true) access n) ≡ may_use (owns table true) access.addr access.len
    by true is = rw (passed_stored Halt table mem access n paged some is, is) refl
    by false is = rw (refused_stored Halt table mem access n paged is, is) refl

told_row : (instr : Instr) (x : ℕ → ℕ) (pc : ℕ) (table : List PageOwner) (mem : List ℕ) → length mem ≡ 4096 * length table
    → Told table (data_asked instr x pc (own_bytes table mem) (owns table true))
told_row (Lb rd rs1 imm) x pc table mem paged = (told_read table mem (load_of pc (add (x rs1) imm) 1) paged (omega arith), tt)
told_row (Lh rd rs1 imm) x pc table mem paged = (told_read table mem (load_of pc (add (x rs1) imm) 2) paged (omega arith), tt)
told_row (Lw rd rs1 imm) x pc table mem paged = (told_read table mem (load_of pc (add (x rs1) imm) 4) paged (omega arith), tt)
told_row (Lbu rd rs1 imm) x pc table mem paged = (told_read table mem (load_of pc (add (x rs1) imm) 1) paged (omega arith), tt)
told_row (Lhu rd rs1 imm) x pc table mem paged = (told_read table mem (load_of pc (add (x rs1) imm) 2) paged (omega arith), tt)
told_row (Sb rs1 rs2 imm) x pc table mem paged = (told_write table mem (store_of pc (add (x rs1) imm) 1) (x rs2) paged (omega arith), tt)
told_row (Sh rs1 rs2 imm) x pc table mem paged = (told_write table mem (store_of pc (add (x rs1) imm) 2) (x rs2) paged (omega arith), tt)
told_row (Sw rs1 rs2 imm) x pc table mem paged = (told_write table mem (store_of pc (add (x rs1) imm) 4) (x rs2) paged (omega arith), tt)
told_row other x pc table mem paged = tt

told_decoded : (instr : Option Instr) (regs : Regs) (table : List PageOwner) (mem : List ℕ) → length mem ≡ 4096 * length table
    → Told table (decoded_asked instr regs (own_bytes table mem) (owns table true))
unfolding effect_asked
told_decoded (Some instr) regs table mem paged = told_row instr _ regs.pc table mem paged
told_decoded None regs table mem paged = tt

told_fetched : (r : Result ℕ Access) (regs : Regs) (table : List PageOwner) (mem : List ℕ) → length mem ≡ 4096 * length table
    → Told table (fetched_asked r regs (own_bytes table mem) (owns table true))
told_fetched (Ok word) regs table mem paged = told_decoded (decoded word) regs table mem paged
told_fetched (Err access) regs table mem paged = tt

told_step : (regs : Regs) (table : List PageOwner) (mem : List ℕ) → length mem ≡ 4096 * length table
    → Told table (asked regs (own_bytes table mem) (owns table true))
unfolding asked
told_step regs table mem paged =
    (told_read table mem (fetch_of regs.pc) paged (omega arith), told_fetched (loaded (own_bytes table mem) (fetch_of regs.pc)) regs table mem paged)

-- ---- what is refused ends the step

-- the first stray access after a step of this meaning
abbrev stray_after_meaning : Option Access → Meaning → Option Access
stray_after_meaning f (next regs m) = f
stray_after_meaning f call = f
stray_after_meaning f (trap signal) = f
stray_after_meaning f (refused access) = stray_after f access false

stray_after_if : (f : Option Access) (test : Bool) (a b : Meaning) → f ≡ stray_after_meaning f a → f ≡ stray_after_meaning f b → f ≡ stray_after_meaning f (if test then a else b)
stray_after_if f true a b first second = first
stray_after_if f false a b first second = second

stray_after_goes : (f : Option Access) (x : List ℕ) (m : Bytes) (target : ℕ) → f ≡ stray_after_meaning f (goes x m target)
stray_after_goes f x m target = stray_after_if f (target % 4 == 0) (next (record { pc = target; x = x }) m) (trap misaligned) refl refl

stray_after_jumps : (f : Option Access) (regs : Regs) (m : Bytes) (rd target : ℕ) → f ≡ stray_after_meaning f (jumps regs m rd target)
stray_after_jumps f regs m rd target = stray_after_goes f (with_register regs.x rd (wrap (regs.pc + 4))) m target

stray_after_branches : (f : Option Access) (regs : Regs) (m : Bytes) (taken : Bool) (offset : ℕ) → f ≡ stray_after_meaning f (branches regs m taken offset)
stray_after_branches f regs m taken offset =
    stray_after_if f taken (goes regs.x m (wrap (regs.pc + offset))) (next (following regs) m) (stray_after_goes f regs.x m (wrap (regs.pc + offset))) refl

stray_after_loads : (f : Option Access) (regs : Regs) (m : Bytes) (rd addr len : ℕ) (extension : ℕ → ℕ)
    → stray_after_done f (reads m (load_of regs.pc addr len)) ≡ stray_after_meaning f (loads regs m rd addr len extension)
unfolding loaded
stray_after_loads f regs m rd addr len extension = by_number (reading m addr len)
  where
    by_number : (n : Option ℕ) → stray_after f (load_of regs.pc addr len) (is_ok (or_refused (load_of regs.pc addr len) n))
        ≡ stray_after_meaning f (sets_loaded regs m rd extension (or_refused (load_of regs.pc addr len) n))
    by_number (Some n) = stray_after_allowed f (load_of regs.pc addr len)
    by_number None = refl

stray_after_stores : (f : Option Access) (regs : Regs) (m : Bytes) (w : ℕ → Bool) (addr len n : ℕ)
    → stray_after_done f (writes m w (store_of regs.pc addr len) n) ≡ stray_after_meaning f (stores regs m w addr len n)
unfolding stored
stray_after_stores f regs m w addr len n = by_test (nat_le (addr + len) (2 ^ 32) && all_writable m w addr len)
  where
    by_test : (test : Bool) →
        stray_after f (store_of regs.pc addr len) (is_ok (if test then Ok (with_bytes m addr (little_bytes len n)) else Err (store_of regs.pc addr len)))
        ≡ stray_after_meaning f (changes regs (if test then Ok (with_bytes m addr (little_bytes len n)) else Err (store_of regs.pc addr len)))
    by_test true = stray_after_allowed f (store_of regs.pc addr len)
    by_test false = refl

stray_after_row : (instr : Instr) (x : ℕ → ℕ) (regs : Regs) (m : Bytes) (w : ℕ → Bool) (f : Option Access)
    → stray_after_done f (data_asked instr x regs.pc m w) ≡ stray_after_meaning f (row instr x regs m w)
stray_after_row (Lui rd imm) x regs m w f = refl
stray_after_row (Auipc rd imm) x regs m w f = refl
stray_after_row (Jal rd imm) x regs m w f = stray_after_jumps f regs m rd (wrap (regs.pc + imm))
stray_after_row (Jalr rd rs1 imm) x regs m w f = stray_after_jumps f regs m rd (even (wrap (x rs1 + imm)))
stray_after_row (Beq rs1 rs2 imm) x regs m w f = stray_after_branches f regs m (x rs1 == x rs2) imm
stray_after_row (Bne rs1 rs2 imm) x regs m w f = stray_after_branches f regs m (not (x rs1 == x rs2)) imm
stray_after_row (Blt rs1 rs2 imm) x regs m w f = stray_after_branches f regs m (int_lt (signed (x rs1)) (signed (x rs2))) imm
stray_after_row (Bge rs1 rs2 imm) x regs m w f = stray_after_branches f regs m (not (int_lt (signed (x rs1)) (signed (x rs2)))) imm
stray_after_row (Bltu rs1 rs2 imm) x regs m w f = stray_after_branches f regs m (nat_lt (x rs1) (x rs2)) imm
stray_after_row (Bgeu rs1 rs2 imm) x regs m w f = stray_after_branches f regs m (not (nat_lt (x rs1) (x rs2))) imm
stray_after_row (Lb rd rs1 imm) x regs m w f = stray_after_loads f regs m rd (add (x rs1) imm) 1 (sign_extended 8)
stray_after_row (Lh rd rs1 imm) x regs m w f = stray_after_loads f regs m rd (add (x rs1) imm) 2 (sign_extended 16)
stray_after_row (Lw rd rs1 imm) x regs m w f = stray_after_loads f regs m rd (add (x rs1) imm) 4 same
stray_after_row (Lbu rd rs1 imm) x regs m w f = stray_after_loads f regs m rd (add (x rs1) imm) 1 same
stray_after_row (Lhu rd rs1 imm) x regs m w f = stray_after_loads f regs m rd (add (x rs1) imm) 2 same
stray_after_row (Sb rs1 rs2 imm) x regs m w f = stray_after_stores f regs m w (add (x rs1) imm) 1 (x rs2)
stray_after_row (Sh rs1 rs2 imm) x regs m w f = stray_after_stores f regs m w (add (x rs1) imm) 2 (x rs2)
stray_after_row (Sw rs1 rs2 imm) x regs m w f = stray_after_stores f regs m w (add (x rs1) imm) 4 (x rs2)
stray_after_row (Addi rd rs1 imm) x regs m w f = refl
stray_after_row (Slti rd rs1 imm) x regs m w f = refl
stray_after_row (Sltiu rd rs1 imm) x regs m w f = refl
stray_after_row (Xori rd rs1 imm) x regs m w f = refl
stray_after_row (Ori rd rs1 imm) x regs m w f = refl
stray_after_row (Andi rd rs1 imm) x regs m w f = refl
stray_after_row (Slli rd rs1 imm) x regs m w f = refl
stray_after_row (Srli rd rs1 imm) x regs m w f = refl
stray_after_row (Srai rd rs1 imm) x regs m w f = refl
stray_after_row (Add rd rs1 rs2) x regs m w f = refl
stray_after_row (Sub rd rs1 rs2) x regs m w f = refl
stray_after_row (Sll rd rs1 rs2) x regs m w f = refl
stray_after_row (Slt rd rs1 rs2) x regs m w f = refl
stray_after_row (Sltu rd rs1 rs2) x regs m w f = refl
stray_after_row (Xor rd rs1 rs2) x regs m w f = refl
stray_after_row (Srl rd rs1 rs2) x regs m w f = refl
stray_after_row (Sra rd rs1 rs2) x regs m w f = refl
stray_after_row (Or rd rs1 rs2) x regs m w f = refl
stray_after_row (And rd rs1 rs2) x regs m w f = refl
stray_after_row (Mul rd rs1 rs2) x regs m w f = refl
stray_after_row (Mulh rd rs1 rs2) x regs m w f = refl
stray_after_row (Mulhsu rd rs1 rs2) x regs m w f = refl
stray_after_row (Mulhu rd rs1 rs2) x regs m w f = refl
stray_after_row (Div rd rs1 rs2) x regs m w f = refl
stray_after_row (Divu rd rs1 rs2) x regs m w f = refl
stray_after_row (Rem rd rs1 rs2) x regs m w f = refl
stray_after_row (Remu rd rs1 rs2) x regs m w f = refl
stray_after_row Fence x regs m w f = refl
stray_after_row FenceI x regs m w f = refl
stray_after_row Ecall x regs m w f = refl
stray_after_row Ebreak x regs m w f = refl

stray_after_decoded : (instr : Option Instr) (regs : Regs) (m : Bytes) (w : ℕ → Bool) (f : Option Access)
    → stray_after_done f (decoded_asked instr regs m w) ≡ stray_after_meaning f (decoded_effect instr regs m w)
unfolding effect effect_asked
stray_after_decoded (Some instr) regs m w f = stray_after_row instr _ regs m w f
stray_after_decoded None regs m w f = refl

stray_after_fetched : (n : Option ℕ) (access : Access) (regs : Regs) (m : Bytes) (w : ℕ → Bool) (f : Option Access)
    → stray_after_done (stray_after f access (is_ok (or_refused access n))) (fetched_asked (or_refused access n) regs m w)
    ≡ stray_after_meaning f (fetched_effect (or_refused access n) regs m w)
stray_after_fetched (Some n) access regs m w f =
    ap (λ (first : Option Access). stray_after_done first (decoded_asked (decoded n) regs m w)) (stray_after_allowed f access) ∙ stray_after_decoded (decoded n) regs m w f
stray_after_fetched None access regs m w f = refl

stray_after_step : (regs : Regs) (m : Bytes) (w : ℕ → Bool) (f : Option Access) → stray_after_done f (asked regs m w) ≡ stray_after_meaning f (meaning regs m w)
unfolding asked meaning loaded
stray_after_step regs m w f = stray_after_fetched (reading m regs.pc 4) (fetch_of regs.pc) regs m w f

meaning_stop : (f : Option Access) (x : Meaning) (regs after : Regs) (m now : Bytes) (stop : Stop) → Means x regs after m now stop → stray_after_meaning f x ≡ stray_after_stop f stop
meaning_stop f (next regs' m') regs after m now stop is = rw (is.2)
meaning_stop f call regs after m now stop is = rw (is.2)
meaning_stop f (trap signal) regs after m now stop is = rw (is.2)
meaning_stop f (refused access) regs after m now stop is = rw (is.2)

step_stray_after : (regs after : Regs) (m now : Bytes) (w : ℕ → Bool) (f g : Option Access) (stop : Stop) → Means (meaning regs m w) regs after m now stop
    → g ≡ stray_after_done f (asked regs m w) → g ≡ stray_after_stop f stop
step_stray_after regs after m now w f g stop means is = is ∙ stray_after_step regs m w f ∙ meaning_stop f (meaning regs m w) regs after m now stop means

pub step_halts : (mode : Mode) (table : List PageOwner) (mem : List ℕ) (regs after : Regs) (now : Bytes) (f g : Option Access) (stop : Stop) → mode ≡ Halt
    → length mem ≡ 4096 * length table
    → Means (meaning regs (passed_bytes mode table mem) (passes mode table true)) regs after (passed_bytes mode table mem) now stop
    → g ≡ stray_after_all table f (asked regs (passed_bytes mode table mem) (passes mode table true)) → g ≡ stray_after_stop f stop
step_halts mode table mem regs after now f g stop halt paged means is =
    step_stray_after regs after (own_bytes table mem) now (owns table true) f g stop (rw halt at means)
    ((rw halt at is) ∙ told_same table (asked regs (own_bytes table mem) (owns table true)) f (told_step regs table mem paged))
