-- The path that a call reads, byte by byte, and which reading is whose.
use Rattle.std.proofs.Common.{◌≡◌, ◌≢◌, ℕ, zero, suc, ◌+◌, ◌-◌, ◌*◌, ◌%◌, ◌^◌, ◌<◌, ◌≤◌, false, true, List, [], ◌∷◌, ◌++◌, length, take, refl, sym, ap, ◌∙◌, arith, drop-cons}
use Rattle.std.proofs.lemmas.List.{append-nil}
use Rattle.std.specs.Prelude.{Result, Ok, Err, slice_index}
use Rattle.byte_words.specs.ByteMap.{Bytes}
use Rattle.vfork_exec.proofs.Keyed.{eqb_other}
use Rattle.mmap_rules.specs.declared.page_owner.PageOwner.{PageOwner}
use Rattle.mmap_rules.specs.Space.{may_use}
use Rattle.mmap_rules.specs.Owners.{owns}
use Rattle.region_watch.specs.Private.{only, physical}
use Rattle.region_watch.proofs.Accesses.{own_within}
use Rattle.call_log.specs.Sent.{Span, read_span, followed, up_to_zero, path_from, write_sent, writev_sent, readv_sent, path_sent, has_path, exec_sent, sent}
use Rattle.call_bytes.specs.declared.unread.Unread.{Unread}
use Rattle.call_bytes.specs.declared.unread.Unread.TheVariants.{Stray, Memory}
use Rattle.call_bytes.specs.Reading.{Reads, ReadsByte, appended}
use Rattle.call_bytes.proofs.ReadRanges.{read_own, followed_is, appended_all}

-- ---- one byte

pub byte_within : (table : List PageOwner) (mem : List ℕ) (addr : ℕ) → length mem ≡ 4096 * length table → may_use (owns table false) addr 1 ≡ true
    → (2 ^ 31 ≤ addr) × (addr + 1 ≤ 2 ^ 31 + length mem)
byte_within table mem addr paged is = let w = own_within table false addr 1 (omega arith) is in (w.0, omega (arith, w.1, paged))

pub byte_read : (table : List PageOwner) (mem : List ℕ) (addr byte : ℕ) → length mem ≡ 4096 * length table → may_use (owns table false) addr 1 ≡ true → byte ≡ slice_index mem (addr - 2 ^ 31)
    → read_span (only (owns table false) (physical mem)) (record { addr = addr; len = 1 }) ≡ Ok (byte ∷ [])
byte_read table mem addr byte paged is at =
    let w = byte_within table mem addr paged is in
    let done : List ℕ → Result (List ℕ) Span = λ x. Ok x in
    read_own table mem addr 1 paged (omega arith) is
    ∙ ap (λ (x : List ℕ). done (take 1 x)) (drop-cons mem (addr - 2 ^ 31) 0 (omega (arith, w.0, w.1)))
    ∙ ap (λ (b : ℕ). done (b ∷ [])) (sym at)

-- ---- a path

-- what was read of a path and what is left give the whole
abbrev pub PathSoFar : ℕ → Bytes → ℕ → ℕ → List ℕ → Type 0
PathSoFar n m at i old = appended old (path_from (n - i) m (at + i)) ≡ path_from n m at

appended_none : (r : Result (List ℕ) Span) → appended [] r ≡ r
appended_none (Ok bytes) = refl
appended_none (Err span) = refl

pub path_begins : (n : ℕ) (m : Bytes) (at : ℕ) (old : List ℕ) → old ≡ [] → PathSoFar n m at 0 old
path_begins n m at old is =
    let left : n - 0 ≡ n = omega arith in
    let here : at + 0 ≡ at = omega arith in
    (λ i. appended (is i) (path_from (left i) m (here i))) ∙ appended_none (path_from n m at)

path_left : (n : ℕ) (m : Bytes) (at i : ℕ) → i < n →
    path_from (n - i) m (at + i) ≡ followed (read_span m (record { addr = (at + i) % 2 ^ 32; len = 1 })) (up_to_zero (path_from (n - (i + 1)) m (at + (i + 1))))
path_left n m at i less =
    let more : n - i ≡ suc (n - (i + 1)) = omega arith in
    let next : at + i + 1 ≡ at + (i + 1) = omega arith in
    ap (λ (k : ℕ). path_from k m (at + i)) more
    ∙ ap (λ (a : ℕ). followed (read_span m (record { addr = (at + i) % 2 ^ 32; len = 1 })) (up_to_zero (path_from (n - (i + 1)) m a))) next

-- a byte more is read
path_byte : (n : ℕ) (m : Bytes) (at i byte : ℕ) (old : List ℕ) → i < n → PathSoFar n m at i old →
    read_span m (record { addr = (at + i) % 2 ^ 32; len = 1 }) ≡ Ok (byte ∷ []) →
    appended (old ++ byte ∷ []) (up_to_zero (path_from (n - (i + 1)) m (at + (i + 1))) (byte ∷ [])) ≡ path_from n m at
path_byte n m at i byte old less before is =
    let rest : List ℕ → Result (List ℕ) Span = up_to_zero (path_from (n - (i + 1)) m (at + (i + 1))) in
    sym (appended_all old (byte ∷ []) (rest (byte ∷ [])))
    ∙ ap (appended old) (sym (followed_is (byte ∷ []) rest))
    ∙ ap (λ (x : Result (List ℕ) Span). appended old (followed x rest)) (sym is)
    ∙ ap (appended old) (sym (path_left n m at i less))
    ∙ before

not_zero : (more : Result (List ℕ) Span) (byte : ℕ) → byte ≢ 0 → up_to_zero more (byte ∷ []) ≡ more
not_zero more zero some = absurd (some refl)
not_zero more (suc k) some = refl

pub path_on : (n : ℕ) (m : Bytes) (at i byte : ℕ) (old new : List ℕ) → i < n → PathSoFar n m at i old →
    read_span m (record { addr = (at + i) % 2 ^ 32; len = 1 }) ≡ Ok (byte ∷ []) → byte ≢ 0 → new ≡ old ++ byte ∷ [] → PathSoFar n m at (i + 1) new
path_on n m at i byte old new less before is some pushed =
    ap (λ (x : List ℕ). appended x (path_from (n - (i + 1)) m (at + (i + 1)))) pushed
    ∙ ap (appended (old ++ byte ∷ [])) (sym (not_zero (path_from (n - (i + 1)) m (at + (i + 1))) byte some))
    ∙ path_byte n m at i byte old less before is

-- the zero is the last
pub path_ends : (n : ℕ) (m : Bytes) (at i byte : ℕ) (old new : List ℕ) → i < n → PathSoFar n m at i old →
    read_span m (record { addr = (at + i) % 2 ^ 32; len = 1 }) ≡ Ok (byte ∷ []) → byte ≡ 0 → new ≡ old ++ byte ∷ [] → path_from n m at ≡ Ok new
path_ends n m at i byte old new less before is none pushed =
    let done : List ℕ → Result (List ℕ) Span = λ x. Ok x in
    sym (path_byte n m at i byte old less before is)
    ∙ ap (λ (b : ℕ). appended (old ++ byte ∷ []) (up_to_zero (path_from (n - (i + 1)) m (at + (i + 1))) (b ∷ []))) none
    ∙ ap done (append-nil (old ++ byte ∷ []) ∙ sym pushed)

-- or the most bytes are read
pub path_full : (n : ℕ) (m : Bytes) (at i : ℕ) (old : List ℕ) → i ≡ n → PathSoFar n m at i old → path_from n m at ≡ Ok old
path_full n m at i old is before =
    let none : n - i ≡ 0 = omega (arith, is) in
    let done : List ℕ → Result (List ℕ) Span = λ x. Ok x in
    sym before ∙ ap (λ (k : ℕ). appended old (path_from k m (at + i))) none ∙ ap done (append-nil old)

-- or a byte strays
pub path_strays : (n : ℕ) (m : Bytes) (at i : ℕ) (old : List ℕ) (stray : Span) → i < n → PathSoFar n m at i old →
    read_span m (record { addr = (at + i) % 2 ^ 32; len = 1 }) ≡ Err stray → path_from n m at ≡ Err stray
path_strays n m at i old stray less before is =
    sym before
    ∙ ap (appended old) (path_left n m at i less)
    ∙ ap (λ (x : Result (List ℕ) Span). appended old (followed x (up_to_zero (path_from (n - (i + 1)) m (at + (i + 1)))))) is

pub unread_byte : (Y : Type 0) (found all : Result (List ℕ) Span) (e : Unread) → ((stray : Span) → found ≡ Err stray → all ≡ Err stray) → ReadsByte found (Err e) → Reads {Y = Y} all (Err e)
unread_byte Y found all (Stray addr len) strays is = strays (record { addr = addr; len = len }) is
unread_byte Y found all Memory strays is = tt

-- ---- which call reads what

module _ (n : ℕ) (args : List ℕ) (m : Bytes) where
  pub sent_write : n ≡ 64 → sent n args m ≡ write_sent m (slice_index args 1) (slice_index args 2)
  unfolding sent
  sent_write is = rw is refl

  pub sent_writev : n ≡ 66 → sent n args m ≡ writev_sent m (slice_index args 1) (slice_index args 2)
  unfolding sent
  sent_writev is = rw is refl

  pub sent_readv : n ≡ 65 → sent n args m ≡ readv_sent m (slice_index args 1) (slice_index args 2)
  unfolding sent
  sent_readv is = rw is refl

  pub sent_exec : n ≡ 221 → sent n args m ≡ exec_sent m (slice_index args 0) (slice_index args 1) (slice_index args 2)
  unfolding sent
  sent_exec is = rw is refl

  pub sent_path : n ≢ 64 → n ≢ 66 → n ≢ 65 → has_path n ≡ true → sent n args m ≡ path_sent m (slice_index args 1)
  unfolding sent
  sent_path n64 n66 n65 is = rw (eqb_other n 64 n64, eqb_other n 66 n66, eqb_other n 65 n65, is) refl

  pub sent_nothing : n ≢ 64 → n ≢ 66 → n ≢ 65 → has_path n ≡ false → n ≢ 221 → sent n args m ≡ Ok []
  unfolding sent
  sent_nothing n64 n66 n65 is n221 = rw (eqb_other n 64 n64, eqb_other n 66 n66, eqb_other n 65 n65, is, eqb_other n 221 n221) refl
