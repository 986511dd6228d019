-- What an instruction asks hits only where it is carried out, and over all of memory as over a process's own bytes.
use Rattle.std.proofs.Common.{◌≡◌, ℕ, zero, suc, ◌+◌, ◌^◌, Bool, true, false, List, [], ◌∷◌, ◌++◌, refl, sym, ap, subst, ◌∙◌, arith, append-nil}
use Rattle.std.specs.Prelude.{nat_le, is_ok, if◌then◌else◌, Option, Some, None, Result, Ok, Err}
use Rattle.rv32im_table.specs.declared.instr.Instr.{Instr}
use Rattle.rv32im_table.specs.declared.instr.Instr.TheVariants.{Lui, Auipc, Jal, Jalr, Beq, Bne, Blt, Bge, Bltu, Bgeu, Lb, Lh, Lw, Lbu, Lhu, Sb, Sh, Sw, Addi, Slti, Sltiu, Xori, Ori, Andi, Slli, Srli, Srai, Add, Sub, Sll, Slt, Sltu, Xor, Srl, Sra, Or, And, Mul, Mulh, Mulhsu, Mulhu, Div, Divu, Rem, Remu, Fence, FenceI, Ecall, Ebreak}
use Rattle.rv32im_table.specs.Table.{decoded}
use Rattle.rv32im_table.specs.Immediate.{sign_extended}
use Rattle.byte_words.specs.declared.access.Access.{Access}
use Rattle.rv32im_step.specs.declared.regs.Regs.{Regs}
use Rattle.rv32im_step.specs.Asked.{Asked, reads, writes, data_asked, effect_asked, decoded_asked, fetched_asked, asked}
use Rattle.rv32im_step.specs.Integer.{add}
use Rattle.rv32im_step.specs.Registers.{register}
use Rattle.rv32im_step.specs.Meaning.{Meaning, next, call, trap, refused, sets_loaded, loads, stores, same, changes, row, effect, decoded_effect, fetched_effect, meaning}
use Rattle.byte_words.specs.ByteMap.{Bytes, number}
use Rattle.rv32im_step.specs.Memory.{fetch_of, load_of, store_of, or_refused, loaded, stored}
use Rattle.mmap_rules.specs.Space.{all_pass}
use Rattle.region_watch.specs.Private.{only}
use Rattle.region_watch.specs.Instructions.{Ran, goes_on, instructions, asked_behind, all_asked}
use Rattle.region_watch.proofs.Maps.{number-only}
use Rattle.memory_world.specs.Wider.{IsWithin, Widens}
use Rattle.memory_world.proofs.Widened.{wide_meaning}
use Rattle.watch_points.specs.declared.hits.Hit.{Hit}
use Rattle.watch_points.specs.declared.point.PointKind.{PointKind}
use Rattle.watch_points.specs.declared.span.Span.{Span}
use Rattle.watch_points.specs.Points.{hits_in}
use Rattle.watch_points.proofs.HitLists.{hits_in-append}

-- these hits are those if the instruction is carried out, and none else
abbrev Sure : Meaning → (hits whole : List Hit) → Type 0
Sure (next regs m) hits whole = hits ≡ whole
Sure call hits whole = hits ≡ []
Sure (trap signal) hits whole = hits ≡ []
Sure (refused access) hits whole = hits ≡ []

sure_none : (m : Meaning) → Sure m [] []
sure_none (next regs m) = refl
sure_none call = refl
sure_none (trap signal) = refl
sure_none (refused access) = refl

-- the part of memory has a number where all of it has the same
some_if : (test : Bool) (x : Option ℕ) (n : ℕ) → (if test then x else None) ≡ Some n → x ≡ Some n
some_if true x n is = is
some_if false x n is = absurd (cc)

loaded_all : (own : ℕ → Bool) (mem : Bytes) (access : Access) (n : ℕ) → loaded (only own mem) access ≡ Ok n → loaded mem access ≡ Ok n
unfolding loaded
loaded_all own mem access n = tested (nat_le (access.addr + access.len) (2 ^ 32)) (number (only own mem) access.addr access.len) (number mem access.addr access.len)
    (λ k is. some_if (all_pass own access.addr access.len) (number mem access.addr access.len) k (sym (number-only own mem access.addr access.len) ∙ is)) n
  where
    tested : (fits : Bool) (x y : Option ℕ) → ((k : ℕ) → x ≡ Some k → y ≡ Some k) → (n : ℕ) → or_refused access (if fits then x else None) ≡ Ok n → or_refused access (if fits then y else None) ≡ Ok n
    tested true (Some k) y found n is = rw (found k refl) is
    tested true None y found n is = absurd (cc)
    tested false x y found n is = absurd (cc)

module _ (kind : PointKind) (spans : List Span) (pid : ℕ) where
  abbrev found : List Asked → List Hit
  found = hits_in kind spans pid

  -- one access
  abbrev one : Access → Bool → List Hit
  one access done = found (record { access = access; done = done } ∷ [])

  -- the hits of a row that is carried out
  abbrev row_hits : Instr → (ℕ → ℕ) → ℕ → List Hit
  row_hits (Lb rd rs1 imm) x pc = one (load_of pc (add (x rs1) imm) 1) true
  row_hits (Lh rd rs1 imm) x pc = one (load_of pc (add (x rs1) imm) 2) true
  row_hits (Lw rd rs1 imm) x pc = one (load_of pc (add (x rs1) imm) 4) true
  row_hits (Lbu rd rs1 imm) x pc = one (load_of pc (add (x rs1) imm) 1) true
  row_hits (Lhu rd rs1 imm) x pc = one (load_of pc (add (x rs1) imm) 2) true
  row_hits (Sb rs1 rs2 imm) x pc = one (store_of pc (add (x rs1) imm) 1) true
  row_hits (Sh rs1 rs2 imm) x pc = one (store_of pc (add (x rs1) imm) 2) true
  row_hits (Sw rs1 rs2 imm) x pc = one (store_of pc (add (x rs1) imm) 4) true
  row_hits other x pc = []

  abbrev decoded_hits : Option Instr → Regs → List Hit
  decoded_hits (Some instr) regs = row_hits instr (register regs.x) regs.pc
  decoded_hits None regs = []

  abbrev fetched_hits : Result ℕ Access → Regs → List Hit
  fetched_hits (Ok word) regs = decoded_hits (decoded word) regs
  fetched_hits (Err access) regs = []

  refused_load : (pc addr len : ℕ) → one (load_of pc addr len) false ≡ []
  unfolding hits_in
  refused_load pc addr len = refl

  refused_store : (pc addr len : ℕ) → one (store_of pc addr len) false ≡ []
  unfolding hits_in
  refused_store pc addr len = refl

  -- nothing asked, no hit
  none_asked : found [] ≡ []
  unfolding hits_in
  none_asked = refl

  fetch_first : (pc : ℕ) (done : Bool) (more : List Asked) → found (record { access = fetch_of pc; done = done } ∷ more) ≡ found more
  unfolding hits_in
  fetch_first pc true more = refl
  fetch_first pc false more = refl

  sure_loads : (regs : Regs) (m : Bytes) (rd addr len : ℕ) (extension : ℕ → ℕ)
      → Sure (loads regs m rd addr len extension) (found (reads m (load_of regs.pc addr len))) (one (load_of regs.pc addr len) true)
  sure_loads regs m rd addr len extension = by (loaded m (load_of regs.pc addr len))
    where
      by : (r : Result ℕ Access) → Sure (sets_loaded regs m rd extension r) (one (load_of regs.pc addr len) (is_ok r)) (one (load_of regs.pc addr len) true)
      by (Ok n) = refl
      by (Err access) = refused_load regs.pc addr len

  sure_stores : (regs : Regs) (m : Bytes) (w : ℕ → Bool) (addr len n : ℕ)
      → Sure (stores regs m w addr len n) (found (writes m w (store_of regs.pc addr len) n)) (one (store_of regs.pc addr len) true)
  sure_stores regs m w addr len n = by (stored m w (store_of regs.pc addr len) n)
    where
      by : (r : Result Bytes Access) → Sure (changes regs r) (one (store_of regs.pc addr len) (is_ok r)) (one (store_of regs.pc addr len) true)
      by (Ok now) = refl
      by (Err access) = refused_store regs.pc addr len

  sure_empty : (m : Meaning) → Sure m (found []) []
  unfolding hits_in
  sure_empty m = sure_none m

  sure_row : (instr : Instr) (x : ℕ → ℕ) (regs : Regs) (m : Bytes) (w : ℕ → Bool) → Sure (row instr x regs m w) (found (data_asked instr x regs.pc m w)) (row_hits instr x regs.pc)
  sure_row (Lui rd imm) x regs m w = sure_empty (row (Lui rd imm) x regs m w)
  sure_row (Auipc rd imm) x regs m w = sure_empty (row (Auipc rd imm) x regs m w)
  sure_row (Jal rd imm) x regs m w = sure_empty (row (Jal rd imm) x regs m w)
  sure_row (Jalr rd rs1 imm) x regs m w = sure_empty (row (Jalr rd rs1 imm) x regs m w)
  sure_row (Beq rs1 rs2 imm) x regs m w = sure_empty (row (Beq rs1 rs2 imm) x regs m w)
  sure_row (Bne rs1 rs2 imm) x regs m w = sure_empty (row (Bne rs1 rs2 imm) x regs m w)
  sure_row (Blt rs1 rs2 imm) x regs m w = sure_empty (row (Blt rs1 rs2 imm) x regs m w)
  sure_row (Bge rs1 rs2 imm) x regs m w = sure_empty (row (Bge rs1 rs2 imm) x regs m w)
  sure_row (Bltu rs1 rs2 imm) x regs m w = sure_empty (row (Bltu rs1 rs2 imm) x regs m w)
  sure_row (Bgeu rs1 rs2 imm) x regs m w = sure_empty (row (Bgeu rs1 rs2 imm) x regs m w)
  sure_row (Lb rd rs1 imm) x regs m w = sure_loads regs m rd (add (x rs1) imm) 1 (sign_extended 8)
  sure_row (Lh rd rs1 imm) x regs m w = sure_loads regs m rd (add (x rs1) imm) 2 (sign_extended 16)
  sure_row (Lw rd rs1 imm) x regs m w = sure_loads regs m rd (add (x rs1) imm) 4 same
  sure_row (Lbu rd rs1 imm) x regs m w = sure_loads regs m rd (add (x rs1) imm) 1 same
  sure_row (Lhu rd rs1 imm) x regs m w = sure_loads regs m rd (add (x rs1) imm) 2 same
  sure_row (Sb rs1 rs2 imm) x regs m w = sure_stores regs m w (add (x rs1) imm) 1 (x rs2)
  sure_row (Sh rs1 rs2 imm) x regs m w = sure_stores regs m w (add (x rs1) imm) 2 (x rs2)
  sure_row (Sw rs1 rs2 imm) x regs m w = sure_stores regs m w (add (x rs1) imm) 4 (x rs2)
  sure_row (Addi rd rs1 imm) x regs m w = sure_empty (row (Addi rd rs1 imm) x regs m w)
  sure_row (Slti rd rs1 imm) x regs m w = sure_empty (row (Slti rd rs1 imm) x regs m w)
  sure_row (Sltiu rd rs1 imm) x regs m w = sure_empty (row (Sltiu rd rs1 imm) x regs m w)
  sure_row (Xori rd rs1 imm) x regs m w = sure_empty (row (Xori rd rs1 imm) x regs m w)
  sure_row (Ori rd rs1 imm) x regs m w = sure_empty (row (Ori rd rs1 imm) x regs m w)
  sure_row (Andi rd rs1 imm) x regs m w = sure_empty (row (Andi rd rs1 imm) x regs m w)
  sure_row (Slli rd rs1 imm) x regs m w = sure_empty (row (Slli rd rs1 imm) x regs m w)
  sure_row (Srli rd rs1 imm) x regs m w = sure_empty (row (Srli rd rs1 imm) x regs m w)
  sure_row (Srai rd rs1 imm) x regs m w = sure_empty (row (Srai rd rs1 imm) x regs m w)
  sure_row (Add rd rs1 rs2) x regs m w = sure_empty (row (Add rd rs1 rs2) x regs m w)
  sure_row (Sub rd rs1 rs2) x regs m w = sure_empty (row (Sub rd rs1 rs2) x regs m w)
  sure_row (Sll rd rs1 rs2) x regs m w = sure_empty (row (Sll rd rs1 rs2) x regs m w)
  sure_row (Slt rd rs1 rs2) x regs m w = sure_empty (row (Slt rd rs1 rs2) x regs m w)
  sure_row (Sltu rd rs1 rs2) x regs m w = sure_empty (row (Sltu rd rs1 rs2) x regs m w)
  sure_row (Xor rd rs1 rs2) x regs m w = sure_empty (row (Xor rd rs1 rs2) x regs m w)
  sure_row (Srl rd rs1 rs2) x regs m w = sure_empty (row (Srl rd rs1 rs2) x regs m w)
  sure_row (Sra rd rs1 rs2) x regs m w = sure_empty (row (Sra rd rs1 rs2) x regs m w)
  sure_row (Or rd rs1 rs2) x regs m w = sure_empty (row (Or rd rs1 rs2) x regs m w)
  sure_row (And rd rs1 rs2) x regs m w = sure_empty (row (And rd rs1 rs2) x regs m w)
  sure_row (Mul rd rs1 rs2) x regs m w = sure_empty (row (Mul rd rs1 rs2) x regs m w)
  sure_row (Mulh rd rs1 rs2) x regs m w = sure_empty (row (Mulh rd rs1 rs2) x regs m w)
  sure_row (Mulhsu rd rs1 rs2) x regs m w = sure_empty (row (Mulhsu rd rs1 rs2) x regs m w)
  sure_row (Mulhu rd rs1 rs2) x regs m w = sure_empty (row (Mulhu rd rs1 rs2) x regs m w)
  sure_row (Div rd rs1 rs2) x regs m w = sure_empty (row (Div rd rs1 rs2) x regs m w)
  sure_row (Divu rd rs1 rs2) x regs m w = sure_empty (row (Divu rd rs1 rs2) x regs m w)
  sure_row (Rem rd rs1 rs2) x regs m w = sure_empty (row (Rem rd rs1 rs2) x regs m w)
  sure_row (Remu rd rs1 rs2) x regs m w = sure_empty (row (Remu rd rs1 rs2) x regs m w)
  sure_row Fence x regs m w = sure_empty (row Fence x regs m w)
  sure_row FenceI x regs m w = sure_empty (row FenceI x regs m w)
  sure_row Ecall x regs m w = sure_empty (row Ecall x regs m w)
  sure_row Ebreak x regs m w = sure_empty (row Ebreak x regs m w)

  sure_decoded : (instr : Option Instr) (regs : Regs) (m : Bytes) (w : ℕ → Bool) → Sure (decoded_effect instr regs m w) (found (decoded_asked instr regs m w)) (decoded_hits instr regs)
  unfolding effect effect_asked
  sure_decoded (Some instr) regs m w = sure_row instr (register regs.x) regs m w
  sure_decoded None regs m w = none_asked

  sure_fetched : (r : Result ℕ Access) (regs : Regs) (m : Bytes) (w : ℕ → Bool) → Sure (fetched_effect r regs m w) (found (fetched_asked r regs m w)) (fetched_hits r regs)
  sure_fetched (Ok word) regs m w = sure_decoded (decoded word) regs m w
  sure_fetched (Err access) regs m w = none_asked

  sure : (regs : Regs) (m : Bytes) (w : ℕ → Bool) → Sure (meaning regs m w) (found (asked regs m w)) (fetched_hits (loaded m (fetch_of regs.pc)) regs)
  unfolding meaning asked
  sure regs m w =
      let r = loaded m (fetch_of regs.pc) in
      subst (λ (xs : List Hit). Sure (fetched_effect r regs m w) xs (fetched_hits r regs)) (sym (fetch_first regs.pc (is_ok r) (fetched_asked r regs m w))) (sure_fetched r regs m w)

  -- ---- an instruction that isn't carried out

  abbrev Quiet : Meaning → List Hit → Type 0
  Quiet (next regs m) hits = Unit {0}
  Quiet call hits = hits ≡ []
  Quiet (trap signal) hits = hits ≡ []
  Quiet (refused access) hits = hits ≡ []

  quiet_of : (m : Meaning) (hits whole : List Hit) → Sure m hits whole → Quiet m hits
  quiet_of (next regs m) hits whole x = tt
  quiet_of call hits whole x = x
  quiet_of (trap signal) hits whole x = x
  quiet_of (refused access) hits whole x = x

  quiet : (regs : Regs) (m : Bytes) (w : ℕ → Bool) (means : Meaning) → meaning regs m w ≡ means → Quiet means (found (asked regs m w))
  quiet regs m w means is =
      let P : Meaning → Type 0 = λ x. Quiet x (found (asked regs m w)) in
      subst P is (quiet_of (meaning regs m w) (found (asked regs m w)) (fetched_hits (loaded m (fetch_of regs.pc)) regs) (sure regs m w))

  pub called_quiet : (regs : Regs) (m : Bytes) (w : ℕ → Bool) → meaning regs m w ≡ call → found (asked regs m w) ≡ []
  called_quiet regs m w is = quiet regs m w call is

  pub trapped_quiet : (regs : Regs) (m : Bytes) (w : ℕ → Bool) (signal : ℕ) → meaning regs m w ≡ trap signal → found (asked regs m w) ≡ []
  trapped_quiet regs m w signal is = quiet regs m w (trap signal) is

  pub refused_quiet : (regs : Regs) (m : Bytes) (w : ℕ → Bool) (access : Access) → meaning regs m w ≡ refused access → found (asked regs m w) ≡ []
  refused_quiet regs m w access is = quiet regs m w (refused access) is

  -- ---- over own bytes, and over all of memory

  carried : (regs : Regs) (m : Bytes) (w : ℕ → Bool) (after : Regs) (now : Bytes) → meaning regs m w ≡ next after now → found (asked regs m w) ≡ fetched_hits (loaded m (fetch_of regs.pc)) regs
  carried regs m w after now is =
      let P : Meaning → Type 0 = λ x. Sure x (found (asked regs m w)) (fetched_hits (loaded m (fetch_of regs.pc)) regs) in
      subst P is (sure regs m w)

  same_fetch : (x y : Result ℕ Access) (regs : Regs) (m : Bytes) (w : ℕ → Bool) (after : Regs) (now : Bytes) → ((n : ℕ) → x ≡ Ok n → y ≡ Ok n) → fetched_effect x regs m w ≡ next after now
      → fetched_hits x regs ≡ fetched_hits y regs
  same_fetch (Ok word) y regs m w after now all is = ap (λ r. fetched_hits r regs) (sym (all word refl))
  same_fetch (Err access) y regs m w after now all is = absurd (cc)

  alike : (own may wide : ℕ → Bool) (regs : Regs) (mem : Bytes) (after there : Regs) (part whole : Bytes) → meaning regs (only own mem) may ≡ next after part → meaning regs mem wide ≡ next there whole
      → found (asked regs (only own mem) may) ≡ found (asked regs mem wide)
  unfolding meaning
  alike own may wide regs mem after there part whole small large =
      carried regs (only own mem) may after part small
      ∙ same_fetch (loaded (only own mem) (fetch_of regs.pc)) (loaded mem (fetch_of regs.pc)) regs (only own mem) may after part (λ n is. loaded_all own mem (fetch_of regs.pc) n is) small
      ∙ sym (carried regs mem wide there whole large)

  -- ---- several instructions: those that are carried out make the same hits over all of memory, and the others none

  pub record Alike (wide : ℕ → Bool) (regs : Regs) (mem : Bytes) (r : Ran) (asks : List Asked) : Type 0 where
    pub same : found asks ≡ found (all_asked r.done wide regs mem)
    pub all : (instructions r.done wide regs mem).done ≡ r.done

  none_alike : (wide : ℕ → Bool) (regs : Regs) (mem : Bytes) (r : Ran) (asks : List Asked) → r.done ≡ 0 → found asks ≡ [] → Alike wide regs mem r asks
  unfolding instructions all_asked
  none_alike wide regs mem r asks none is = record {
    same = rw none (is ∙ sym none_asked);
    all = rw none refl;
  }

  behind_none : (regs : Regs) (m : Bytes) (w : ℕ → Bool) → found (asked regs m w) ≡ [] → found (asked regs m w ++ []) ≡ []
  behind_none regs m w is = ap found (append-nil (asked regs m w)) ∙ is

  pub all_alike : (n : ℕ) (own may wide : ℕ → Bool) (regs : Regs) (mem : Bytes) → IsWithin own may → IsWithin wide may
      → Alike wide regs mem (instructions n may regs (only own mem)) (all_asked n may regs (only own mem))
  unfolding instructions all_asked
  all_alike zero own may wide regs mem within inside = record { same = refl; all = refl }
  all_alike (suc n) own may wide regs mem within inside =
      first (meaning regs (only own mem) may) (meaning regs mem wide) refl refl (wide_meaning own may wide regs mem within inside) (λ after all. all_alike n own may wide after all within inside)
    where
      first : (small large : Meaning) → meaning regs (only own mem) may ≡ small → meaning regs mem wide ≡ large → Widens own may mem small large
          → ((after : Regs) (all : Bytes) → Alike wide after all (instructions n may after (only own all)) (all_asked n may after (only own all)))
          → Alike wide regs mem (goes_on regs (only own mem) (λ after now. instructions n may after now) small)
          (asked regs (only own mem) may ++ asked_behind (λ after now. all_asked n may after now) small)
      first (next after part) (next there whole) small large (regs_same, g) more =
          let there_is : meaning regs mem wide ≡ next after whole = large ∙ ap (λ (r : Regs). next r whole) regs_same in
          let m = more after whole in
          let r : Ran = instructions n may after (only own whole) in
          let sum : r.done + 1 ≡ suc r.done = omega arith in
          let P : Bytes → Type 0 = λ b. Alike wide regs mem (goes_on regs (only own mem) (λ o now. instructions n may o now) (next after b))
          (asked regs (only own mem) may ++ all_asked n may after b) in
          subst P g.seen (record {
            same = rw sum (hits_in-append kind spans pid (asked regs (only own mem) may) (all_asked n may after (only own whole))
                ∙ ap (λ (xs : List Hit). xs ++ found (all_asked n may after (only own whole))) (alike own may wide regs mem after there part whole small large)
                ∙ ap (λ (xs : List Hit). found (asked regs mem wide) ++ xs) m.same
                ∙ sym (hits_in-append kind spans pid (asked regs mem wide) (all_asked r.done wide after whole))
                ∙ ap (λ (x : Meaning). found (asked regs mem wide ++ asked_behind (λ o now. all_asked r.done wide o now) x)) (sym there_is));
            all = rw (sum, there_is) (rw m.all sum);
          })
      first call large is other widens more = none_alike wide regs mem _ _ refl (behind_none regs (only own mem) may (called_quiet regs (only own mem) may is))
      first (trap signal) large is other widens more = none_alike wide regs mem _ _ refl (behind_none regs (only own mem) may (trapped_quiet regs (only own mem) may signal is))
      first (refused access) large is other widens more = none_alike wide regs mem _ _ refl (behind_none regs (only own mem) may (refused_quiet regs (only own mem) may access is))
      first (next after part) call is goes widens more = absurd widens
      first (next after part) (trap signal) is goes widens more = absurd widens
      first (next after part) (refused access) is goes widens more = absurd widens
