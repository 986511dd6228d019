-- An instruction over a part of memory, and over all of it.
use Rattle.std.proofs.Common.{◌≡◌, ℕ, zero, suc, ◌+◌, ◌/◌, ◌%◌, ◌^◌, Bool, true, false, List, length, arith, refl, sym, ap, ◌∙◌}
use Rattle.std.specs.Prelude.{not, ◌==◌, ◌&&◌, nat_le, nat_lt, int_lt, is_some, if◌then◌else◌, Option, Some, None, Result, Ok, Err}
use Rattle.std.proofs.lemmas.Bool.Decides.{nat_tests}
use Rattle.rv32im_table.specs.declared.instr.Instr.{Instr}
use Rattle.rv32im_table.specs.declared.instr.Instr.TheVariants.{Lui, Auipc, Jal, Jalr, Beq, Bne, Blt, Bge, Bltu, Bgeu, Lb, Lh, Lw, Lbu, Lhu, Sb, Sh, Sw, Addi, Slti, Sltiu, Xori, Ori, Andi, Slli, Srli, Srai, Add, Sub, Sll, Slt, Sltu, Xor, Srl, Sra, Or, And, Mul, Mulh, Mulhsu, Mulhu, Div, Divu, Rem, Remu, Fence, FenceI, Ecall, Ebreak}
use Rattle.rv32im_table.specs.Table.{decoded}
use Rattle.rv32im_table.specs.Immediate.{sign_extended}
use Rattle.byte_words.specs.declared.access.Access.{Access}
use Rattle.rv32im_step.specs.declared.regs.Regs.{Regs}
use Rattle.rv32im_step.specs.Integer.{add}
use Rattle.rv32im_step.specs.Registers.{with_register}
use Rattle.rv32im_step.specs.Word.{wrap, signed}
use Rattle.rv32im_step.specs.Meaning.{Meaning, goes, jumps, branches, sets_loaded, loads, stores, same, even, changes, row, effect, decoded_effect, fetched_effect, meaning}
use Rattle.byte_words.specs.ByteMap.{Bytes, number, little_bytes, with_byte, with_bytes}
use Rattle.byte_words.proofs.ByteArrays.{length-little_bytes}
use Rattle.rv32im_step.specs.Memory.{fetch_of, load_of, store_of, or_refused, loaded, all_writable, stored}
use Rattle.mmap_rules.specs.Space.{all_pass}
use Rattle.region_watch.specs.Private.{only}
use Rattle.region_watch.proofs.Maps.{number-only, with_bytes-only}
use Rattle.memory_world.specs.Wider.{IsWithin, Grows, Widens}

abbrev Wide : (own may : ℕ → Bool) → Bytes → Meaning → Meaning → Type 0
Wide own may mem small large = Widens own may mem small large

untouched : (own may : ℕ → Bool) (mem : Bytes) → Grows own may mem (only own mem) mem
untouched own may mem = record { seen = refl; rest = λ a locked. refl }

-- ---- what is read

-- a number of the part is one of all
some_if : (test : Bool) (x : Option ℕ) (n : ℕ) → (if test then x else None) ≡ Some n → x ≡ Some n
some_if true x n is = is
some_if false x n is = absurd (cc)

number_wide : (own : ℕ → Bool) (mem : Bytes) (a len n : ℕ) → number (only own mem) a len ≡ Some n → number mem a len ≡ Some n
number_wide own mem a len n is = some_if (all_pass own a len) (number mem a len) n (sym (number-only own mem a len) ∙ is)

loaded_wide : (own : ℕ → Bool) (mem : Bytes) (access : Access) (n : ℕ) → loaded (only own mem) access ≡ Ok n → loaded mem access ≡ Ok n
unfolding loaded
loaded_wide own mem access n = tested (nat_le (access.addr + access.len) (2 ^ 32)) (number (only own mem) access.addr access.len) (number mem access.addr access.len)
    (λ n is. number_wide own mem access.addr access.len n is) n
  where
    tested : (fits : Bool) (x y : Option ℕ) → ((n : ℕ) → x ≡ Some n → y ≡ Some n) → (n : ℕ) → or_refused access (if fits then x else None) ≡ Ok n → or_refused access (if fits then y else None) ≡ Ok n
    tested true (Some k) y found n is = rw (found k refl) is
    tested true None y found n is = absurd (cc)
    tested false x y found n is = absurd (cc)

-- ---- the parts of a row

wide_if : (own may : ℕ → Bool) (mem : Bytes) (test : Bool) (a b c d : Meaning) → Wide own may mem a c → Wide own may mem b d → Wide own may mem (if test then a else b) (if test then c else d)
wide_if own may mem true a b c d first second = first
wide_if own may mem false a b c d first second = second

wide_goes : (own may : ℕ → Bool) (mem : Bytes) (x : List ℕ) (target : ℕ) → Wide own may mem (goes x (only own mem) target) (goes x mem target)
wide_goes own may mem x target = wide_if own may mem (target % 4 == 0) _ _ _ _ (refl, untouched own may mem) refl

wide_jumps : (own may : ℕ → Bool) (mem : Bytes) (regs : Regs) (rd target : ℕ) → Wide own may mem (jumps regs (only own mem) rd target) (jumps regs mem rd target)
wide_jumps own may mem regs rd target = wide_goes own may mem (with_register regs.x rd (wrap (regs.pc + 4))) target

wide_branches : (own may : ℕ → Bool) (mem : Bytes) (regs : Regs) (taken : Bool) (offset : ℕ) → Wide own may mem (branches regs (only own mem) taken offset) (branches regs mem taken offset)
wide_branches own may mem regs taken offset = wide_if own may mem taken _ _ _ _ (wide_goes own may mem regs.x (wrap (regs.pc + offset))) (refl, untouched own may mem)

wide_loads : (own may : ℕ → Bool) (mem : Bytes) (regs : Regs) (rd addr len : ℕ) (extension : ℕ → ℕ) → Wide own may mem (loads regs (only own mem) rd addr len extension) (loads regs mem rd addr len extension)
wide_loads own may mem regs rd addr len extension = read (loaded (only own mem) (load_of regs.pc addr len)) (loaded mem (load_of regs.pc addr len)) (λ n is. loaded_wide own mem (load_of regs.pc addr len) n is)
  where
    read : (x y : Result ℕ Access) → ((n : ℕ) → x ≡ Ok n → y ≡ Ok n) → Wide own may mem (sets_loaded regs (only own mem) rd extension x) (sets_loaded regs mem rd extension y)
    read (Ok n) y found = rw (found n refl) (refl, untouched own may mem)
    read (Err access) y found = tt

-- ---- what is written

all_true : (a b c : Bool) → (a && b && c) ≡ true → (a ≡ true) × (b ≡ true) × (c ≡ true)
all_true true true true is = (refl, refl, refl)
all_true true true false is = absurd (cc)
all_true true false c is = absurd (cc)
all_true false b c is = absurd (cc)

there : (own : ℕ → Bool) (mem : Bytes) (a : ℕ) → is_some (only own mem a) ≡ true → is_some (mem a) ≡ true
unfolding only
there own mem a is = tested (own a) is
  where
    tested : (test : Bool) → is_some (if test then mem a else None) ≡ true → is_some (mem a) ≡ true
    tested true is = is
    tested false is = absurd (cc)

writable_wide : (own may wide : ℕ → Bool) (mem : Bytes) (a len : ℕ) → IsWithin wide may → all_writable (only own mem) may a len ≡ true → all_writable mem wide a len ≡ true
writable_wide own may wide mem a zero inside is = refl
writable_wide own may wide mem a (suc len) inside is =
    let first = all_true (is_some (only own mem a)) (may a) (all_writable (only own mem) may (a + 1) len) is in
    rw (there own mem a first.0, inside a first.1, writable_wide own may wide mem (a + 1) len inside first.2) refl

passes : (own may : ℕ → Bool) (mem : Bytes) (a len : ℕ) → IsWithin own may → all_writable (only own mem) may a len ≡ true → all_pass own a len ≡ true
passes own may mem a zero within is = refl
passes own may mem a (suc len) within is =
    let first = all_true (is_some (only own mem a)) (may a) (all_writable (only own mem) may (a + 1) len) is in
    rw (within a first.1, passes own may mem (a + 1) len within first.2) refl

locked_byte : (may : ℕ → Bool) (mem now : Bytes) (a b i : ℕ) → may a ≡ true → may i ≡ false → now i ≡ mem i → with_byte now a b i ≡ mem i
locked_byte may mem now a b i may_a locked before = grind (arith, nat_tests)

locked_bytes : (own may : ℕ → Bool) (mem : Bytes) (a len n i : ℕ) → all_writable (only own mem) may a len ≡ true → may i ≡ false → with_bytes mem a (little_bytes len n) i ≡ mem i
locked_bytes own may mem a zero n i is locked = refl
locked_bytes own may mem a (suc len) n i is locked =
    let first = all_true (is_some (only own mem a)) (may a) (all_writable (only own mem) may (a + 1) len) is in
    locked_byte may mem (with_bytes mem (a + 1) (little_bytes len (n / 256))) a (n % 256) i first.1 locked (locked_bytes own may mem (a + 1) len (n / 256) i first.2 locked)

wide_stores : (own may wide : ℕ → Bool) (mem : Bytes) (regs : Regs) (addr len n : ℕ) → IsWithin own may → IsWithin wide may
    → Wide own may mem (stores regs (only own mem) may addr len n) (stores regs mem wide addr len n)
unfolding stored
wide_stores own may wide mem regs addr len n within inside = tested (nat_le (addr + len) (2 ^ 32)) (all_writable (only own mem) may addr len) refl
  where
    tested : (fits ok : Bool) → all_writable (only own mem) may addr len ≡ ok →
        Wide own may mem (changes regs (if fits && ok then Ok (with_bytes (only own mem) addr (little_bytes len n)) else Err (store_of regs.pc addr len)))
        (changes regs (if fits && all_writable mem wide addr len then Ok (with_bytes mem addr (little_bytes len n)) else Err (store_of regs.pc addr len)))
    tested true true is =
        let pass : all_pass own addr (length (little_bytes len n)) ≡ true = ap (all_pass own addr) (length-little_bytes len n) ∙ passes own may mem addr len within is in
        rw (writable_wide own may wide mem addr len inside is) (refl, record { seen = with_bytes-only own mem addr (little_bytes len n) pass; rest = λ i locked. locked_bytes own may mem addr len n i is locked })
    tested true false is = tt
    tested false ok is = tt

-- ---- the rows

wide_row : (own may wide : ℕ → Bool) (mem : Bytes) → IsWithin own may → IsWithin wide may → (instr : Instr) (x : ℕ → ℕ) (regs : Regs) → Wide own may mem (row instr x regs (only own mem) may) (row instr x regs mem wide)
wide_row own may wide mem within inside (Lui rd imm) x regs = (refl, untouched own may mem)
wide_row own may wide mem within inside (Auipc rd imm) x regs = (refl, untouched own may mem)
wide_row own may wide mem within inside (Jal rd imm) x regs = wide_jumps own may mem regs rd (wrap (regs.pc + imm))
wide_row own may wide mem within inside (Jalr rd rs1 imm) x regs = wide_jumps own may mem regs rd (even (wrap (x rs1 + imm)))
wide_row own may wide mem within inside (Beq rs1 rs2 imm) x regs = wide_branches own may mem regs (x rs1 == x rs2) imm
wide_row own may wide mem within inside (Bne rs1 rs2 imm) x regs = wide_branches own may mem regs (not (x rs1 == x rs2)) imm
wide_row own may wide mem within inside (Blt rs1 rs2 imm) x regs = wide_branches own may mem regs (int_lt (signed (x rs1)) (signed (x rs2))) imm
wide_row own may wide mem within inside (Bge rs1 rs2 imm) x regs = wide_branches own may mem regs (not (int_lt (signed (x rs1)) (signed (x rs2)))) imm
wide_row own may wide mem within inside (Bltu rs1 rs2 imm) x regs = wide_branches own may mem regs (nat_lt (x rs1) (x rs2)) imm
wide_row own may wide mem within inside (Bgeu rs1 rs2 imm) x regs = wide_branches own may mem regs (not (nat_lt (x rs1) (x rs2))) imm
wide_row own may wide mem within inside (Lb rd rs1 imm) x regs = wide_loads own may mem regs rd (add (x rs1) imm) 1 (sign_extended 8)
wide_row own may wide mem within inside (Lh rd rs1 imm) x regs = wide_loads own may mem regs rd (add (x rs1) imm) 2 (sign_extended 16)
wide_row own may wide mem within inside (Lw rd rs1 imm) x regs = wide_loads own may mem regs rd (add (x rs1) imm) 4 same
wide_row own may wide mem within inside (Lbu rd rs1 imm) x regs = wide_loads own may mem regs rd (add (x rs1) imm) 1 same
wide_row own may wide mem within inside (Lhu rd rs1 imm) x regs = wide_loads own may mem regs rd (add (x rs1) imm) 2 same
wide_row own may wide mem within inside (Sb rs1 rs2 imm) x regs = wide_stores own may wide mem regs (add (x rs1) imm) 1 (x rs2) within inside
wide_row own may wide mem within inside (Sh rs1 rs2 imm) x regs = wide_stores own may wide mem regs (add (x rs1) imm) 2 (x rs2) within inside
wide_row own may wide mem within inside (Sw rs1 rs2 imm) x regs = wide_stores own may wide mem regs (add (x rs1) imm) 4 (x rs2) within inside
wide_row own may wide mem within inside (Addi rd rs1 imm) x regs = (refl, untouched own may mem)
wide_row own may wide mem within inside (Slti rd rs1 imm) x regs = (refl, untouched own may mem)
wide_row own may wide mem within inside (Sltiu rd rs1 imm) x regs = (refl, untouched own may mem)
wide_row own may wide mem within inside (Xori rd rs1 imm) x regs = (refl, untouched own may mem)
wide_row own may wide mem within inside (Ori rd rs1 imm) x regs = (refl, untouched own may mem)
wide_row own may wide mem within inside (Andi rd rs1 imm) x regs = (refl, untouched own may mem)
wide_row own may wide mem within inside (Slli rd rs1 imm) x regs = (refl, untouched own may mem)
wide_row own may wide mem within inside (Srli rd rs1 imm) x regs = (refl, untouched own may mem)
wide_row own may wide mem within inside (Srai rd rs1 imm) x regs = (refl, untouched own may mem)
wide_row own may wide mem within inside (Add rd rs1 rs2) x regs = (refl, untouched own may mem)
wide_row own may wide mem within inside (Sub rd rs1 rs2) x regs = (refl, untouched own may mem)
wide_row own may wide mem within inside (Sll rd rs1 rs2) x regs = (refl, untouched own may mem)
wide_row own may wide mem within inside (Slt rd rs1 rs2) x regs = (refl, untouched own may mem)
wide_row own may wide mem within inside (Sltu rd rs1 rs2) x regs = (refl, untouched own may mem)
wide_row own may wide mem within inside (Xor rd rs1 rs2) x regs = (refl, untouched own may mem)
wide_row own may wide mem within inside (Srl rd rs1 rs2) x regs = (refl, untouched own may mem)
wide_row own may wide mem within inside (Sra rd rs1 rs2) x regs = (refl, untouched own may mem)
wide_row own may wide mem within inside (Or rd rs1 rs2) x regs = (refl, untouched own may mem)
wide_row own may wide mem within inside (And rd rs1 rs2) x regs = (refl, untouched own may mem)
wide_row own may wide mem within inside (Mul rd rs1 rs2) x regs = (refl, untouched own may mem)
wide_row own may wide mem within inside (Mulh rd rs1 rs2) x regs = (refl, untouched own may mem)
wide_row own may wide mem within inside (Mulhsu rd rs1 rs2) x regs = (refl, untouched own may mem)
wide_row own may wide mem within inside (Mulhu rd rs1 rs2) x regs = (refl, untouched own may mem)
wide_row own may wide mem within inside (Div rd rs1 rs2) x regs = (refl, untouched own may mem)
wide_row own may wide mem within inside (Divu rd rs1 rs2) x regs = (refl, untouched own may mem)
wide_row own may wide mem within inside (Rem rd rs1 rs2) x regs = (refl, untouched own may mem)
wide_row own may wide mem within inside (Remu rd rs1 rs2) x regs = (refl, untouched own may mem)
wide_row own may wide mem within inside Fence x regs = (refl, untouched own may mem)
wide_row own may wide mem within inside FenceI x regs = (refl, untouched own may mem)
wide_row own may wide mem within inside Ecall x regs = tt
wide_row own may wide mem within inside Ebreak x regs = refl

wide_decoded : (own may wide : ℕ → Bool) (mem : Bytes) → IsWithin own may → IsWithin wide may → (instr : Option Instr) (regs : Regs)
    → Wide own may mem (decoded_effect instr regs (only own mem) may) (decoded_effect instr regs mem wide)
unfolding effect
wide_decoded own may wide mem within inside (Some instr) regs = wide_row own may wide mem within inside instr _ regs
wide_decoded own may wide mem within inside None regs = refl

pub wide_meaning : (own may wide : ℕ → Bool) (regs : Regs) (mem : Bytes) → IsWithin own may → IsWithin wide may
    → Wide own may mem (meaning regs (only own mem) may) (meaning regs mem wide)
unfolding meaning
wide_meaning own may wide regs mem within inside = fetched (loaded (only own mem) (fetch_of regs.pc)) (loaded mem (fetch_of regs.pc)) (λ n is. loaded_wide own mem (fetch_of regs.pc) n is)
  where
    fetched : (x y : Result ℕ Access) → ((n : ℕ) → x ≡ Ok n → y ≡ Ok n) → Wide own may mem (fetched_effect x regs (only own mem) may) (fetched_effect y regs mem wide)
    fetched (Ok word) y found = rw (found word refl) (wide_decoded own may wide mem within inside (decoded word) regs)
    fetched (Err access) y found = tt
