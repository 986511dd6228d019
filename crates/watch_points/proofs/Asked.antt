-- The accesses of a step: at most one is of data, and one that was carried out has 1 to 4 bytes that don't pass 2^32.
use Rattle.std.proofs.Common.{◌≡◌, ℕ, zero, suc, ◌+◌, ◌^◌, ◌≤◌, Bool, true, false, List, [], ◌∷◌, ◌++◌, refl, arith}
use Rattle.std.specs.Prelude.{nat_le, is_ok, Option, Some, None, Result, Ok, Err}
use Rattle.std.specs.List.{AllByRecursion as Each}
use Rattle.std.proofs.lemmas.Bool.Decides.{nat_tests}
use Rattle.rv32im_table.specs.declared.instr.Instr.{Instr}
use Rattle.rv32im_table.specs.declared.instr.Instr.TheVariants.{Lb, Lh, Lw, Lbu, Lhu, Sb, Sh, Sw}
use Rattle.rv32im_table.specs.Table.{decoded}
use Rattle.byte_words.specs.declared.access.Access.{Access}
use Rattle.rv32im_step.specs.declared.regs.Regs.{Regs}
use Rattle.rv32im_step.specs.Asked.{Asked, reads, writes, data_asked, effect_asked, decoded_asked, fetched_asked, asked}
use Rattle.rv32im_step.specs.Integer.{add}
use Rattle.rv32im_step.specs.Meaning.{Meaning, next, call, trap, refused, meaning}
use Rattle.rv32im_step.specs.Memory.{fetch_of, load_of, store_of, loaded, stored}
use Rattle.byte_words.specs.ByteMap.{Bytes}
use Rattle.region_watch.specs.Instructions.{asked_behind, all_asked}
use Rattle.watch_points.specs.Points.{IsShort}

-- ---- what was carried out is short

-- an access that was carried out has 1 to 4 bytes that don't pass 2^32
abbrev pub Short : Asked → Type 0
Short one = one.done ≡ true → IsShort one.access.addr one.access.len

read_bound : (m : Bytes) (access : Access) → is_ok (loaded m access) ≡ true → access.addr + access.len ≤ 2 ^ 32
unfolding loaded
read_bound m access done = by (nat_le (access.addr + access.len) (2 ^ 32)) refl
  where
    by : (test : Bool) → nat_le (access.addr + access.len) (2 ^ 32) ≡ test → access.addr + access.len ≤ 2 ^ 32
    by true is = grind (arith, nat_tests)
    by false is = absurd (let e = rw is at done in cc)

write_bound : (m : Bytes) (w : ℕ → Bool) (access : Access) (n : ℕ) → is_ok (stored m w access n) ≡ true → access.addr + access.len ≤ 2 ^ 32
unfolding stored
write_bound m w access n done = by (nat_le (access.addr + access.len) (2 ^ 32)) refl
  where
    by : (test : Bool) → nat_le (access.addr + access.len) (2 ^ 32) ≡ test → access.addr + access.len ≤ 2 ^ 32
    by true is = grind (arith, nat_tests)
    by false is = absurd (let e = rw is at done in cc)

short_read : (m : Bytes) (access : Access) → 1 ≤ access.len → access.len ≤ 4 → Each Short (reads m access)
short_read m access some few = (λ done. record { some = some; few = few; bound = read_bound m access done }, tt)

short_write : (m : Bytes) (w : ℕ → Bool) (access : Access) (n : ℕ) → 1 ≤ access.len → access.len ≤ 4 → Each Short (writes m w access n)
short_write m w access n some few = (λ done. record { some = some; few = few; bound = write_bound m w access n done }, tt)

short_row : (instr : Instr) (x : ℕ → ℕ) (pc : ℕ) (m : Bytes) (w : ℕ → Bool) → Each Short (data_asked instr x pc m w)
short_row (Lb rd rs1 imm) x pc m w = short_read m (load_of pc (add (x rs1) imm) 1) (omega arith) (omega arith)
short_row (Lh rd rs1 imm) x pc m w = short_read m (load_of pc (add (x rs1) imm) 2) (omega arith) (omega arith)
short_row (Lw rd rs1 imm) x pc m w = short_read m (load_of pc (add (x rs1) imm) 4) (omega arith) (omega arith)
short_row (Lbu rd rs1 imm) x pc m w = short_read m (load_of pc (add (x rs1) imm) 1) (omega arith) (omega arith)
short_row (Lhu rd rs1 imm) x pc m w = short_read m (load_of pc (add (x rs1) imm) 2) (omega arith) (omega arith)
short_row (Sb rs1 rs2 imm) x pc m w = short_write m w (store_of pc (add (x rs1) imm) 1) (x rs2) (omega arith) (omega arith)
short_row (Sh rs1 rs2 imm) x pc m w = short_write m w (store_of pc (add (x rs1) imm) 2) (x rs2) (omega arith) (omega arith)
short_row (Sw rs1 rs2 imm) x pc m w = short_write m w (store_of pc (add (x rs1) imm) 4) (x rs2) (omega arith) (omega arith)
short_row other x pc m w = tt

short_decoded : (instr : Option Instr) (regs : Regs) (m : Bytes) (w : ℕ → Bool) → Each Short (decoded_asked instr regs m w)
unfolding effect_asked
short_decoded (Some instr) regs m w = short_row instr _ regs.pc m w
short_decoded None regs m w = tt

short_fetched : (r : Result ℕ Access) (regs : Regs) (m : Bytes) (w : ℕ → Bool) → Each Short (fetched_asked r regs m w)
short_fetched (Ok word) regs m w = short_decoded (decoded word) regs m w
short_fetched (Err access) regs m w = tt

short_step : (regs : Regs) (m : Bytes) (w : ℕ → Bool) → Each Short (asked regs m w)
unfolding asked
short_step regs m w = ((short_read m (fetch_of regs.pc) (omega arith) (omega arith)).0, short_fetched (loaded m (fetch_of regs.pc)) regs m w)

each_both : (xs ys : List Asked) → Each Short xs → Each Short ys → Each Short (xs ++ ys)
each_both [] ys a b = b
each_both (x ∷ xs) ys a b = (a.0, each_both xs ys a.1 b)

short_behind : (more : Regs → Bytes → List Asked) (x : Meaning) → ((after : Regs) (now : Bytes) → Each Short (more after now)) → Each Short (asked_behind more x)
short_behind more (next after now) each = each after now
short_behind more call each = tt
short_behind more (trap signal) each = tt
short_behind more (refused access) each = tt

pub short_all : (n : ℕ) (w : ℕ → Bool) (regs : Regs) (m : Bytes) → Each Short (all_asked n w regs m)
unfolding all_asked
short_all zero w regs m = tt
short_all (suc n) w regs m =
    each_both (asked regs m w) (asked_behind (λ after now. all_asked n w after now) (meaning regs m w)) (short_step regs m w)
    (short_behind (λ after now. all_asked n w after now) (meaning regs m w) (λ after now. short_all n w after now))

-- ---- a step makes a fetch, and at most one access more

abbrev pub AtMostOne : List Asked → Type 0
AtMostOne [] = Unit {0}
AtMostOne (x ∷ xs) = xs ≡ []

one_row : (instr : Instr) (x : ℕ → ℕ) (pc : ℕ) (m : Bytes) (w : ℕ → Bool) → AtMostOne (data_asked instr x pc m w)
one_row (Lb rd rs1 imm) x pc m w = refl
one_row (Lh rd rs1 imm) x pc m w = refl
one_row (Lw rd rs1 imm) x pc m w = refl
one_row (Lbu rd rs1 imm) x pc m w = refl
one_row (Lhu rd rs1 imm) x pc m w = refl
one_row (Sb rs1 rs2 imm) x pc m w = refl
one_row (Sh rs1 rs2 imm) x pc m w = refl
one_row (Sw rs1 rs2 imm) x pc m w = refl
one_row other x pc m w = tt

one_decoded : (instr : Option Instr) (regs : Regs) (m : Bytes) (w : ℕ → Bool) → AtMostOne (decoded_asked instr regs m w)
unfolding effect_asked
one_decoded (Some instr) regs m w = one_row instr _ regs.pc m w
one_decoded None regs m w = tt

pub one_fetched : (r : Result ℕ Access) (regs : Regs) (m : Bytes) (w : ℕ → Bool) → AtMostOne (fetched_asked r regs m w)
one_fetched (Ok word) regs m w = one_decoded (decoded word) regs m w
one_fetched (Err access) regs m w = tt
