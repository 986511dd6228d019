-- Maps cut down by a test. No list and no table stands here.
use Rattle.std.proofs.Common.{◌≡◌, ℕ, zero, suc, ◌+◌, ◌≤◌, ◌<◌, Bool, true, false, not, ◌&&◌, length, List, [], ◌∷◌, arith, refl, ap, ◌∙◌, inl, inr}
use Rattle.std.specs.Prelude.{nat_le, is_some, if◌then◌else◌, ◌^◌, Option, None}
use Rattle.std.proofs.lemmas.Bool.{cases_lt}
use Rattle.std.proofs.lemmas.Bool.Decides.{nat_tests}
use Rattle.byte_words.specs.ByteMap.{Bytes, with_low, number, with_byte, with_bytes}
use Rattle.byte_words.proofs.ByteArrays.{with_low_none}
use Rattle.mmap_rules.specs.Space.{all_pass, may_use}
use Rattle.rv32im_step.specs.Memory.{reading, all_writable}
use Rattle.region_watch.specs.Private.{only}

-- ---- tests of a range

both : (a b : Bool) → (a && b) ≡ true → (a ≡ true) × (b ≡ true)
both true true is = (refl, refl)
both true false is = absurd (cc)
both false b is = absurd (cc)

pub all_pass-at : (p : ℕ → Bool) (a n i : ℕ) → all_pass p a n ≡ true → a ≤ i → i < a + n → p i ≡ true
all_pass-at p a zero i pass low high = absurd (omega arith)
all_pass-at p a (suc n) i pass low high =
    let parts = both (p a) (all_pass p (a + 1) n) pass in
    elim (cases_lt a i) [
      | inl later ↦ all_pass-at p (a + 1) n i parts.1 (omega arith) (omega arith)
      | inr here ↦ let e : i ≡ a = omega arith in ap p e ∙ parts.0
    ]

pub all_pass-each : (p : ℕ → Bool) (a n : ℕ) → ((i : ℕ) → a ≤ i → i < a + n → p i ≡ true) → all_pass p a n ≡ true
all_pass-each p a zero each = refl
all_pass-each p a (suc n) each =
    let here : p a ≡ true = each a (omega arith) (omega arith) in
    let rest = all_pass-each p (a + 1) n (λ i low high. each i (omega arith) (omega arith)) in
    rw (here, rest) refl

-- ---- what is read

pub number-only : (p : ℕ → Bool) (m : Bytes) (a len : ℕ) → number (only p m) a len ≡ (if all_pass p a len then number m a len else None)
unfolding only
number-only p m a zero = refl
number-only p m a (suc len) =
    rw (number-only p m (a + 1) len) (with_low_if (p a) (all_pass p (a + 1) len) (m a) (number m (a + 1) len))
  where
    with_low_if : (here rest : Bool) (low high : Option ℕ) →
        with_low (if here then low else None) (if rest then high else None) ≡ (if here && rest then with_low low high else None)
    with_low_if true true low high = refl
    with_low_if true false low high = with_low_none low
    with_low_if false rest low high = refl

pub reading-only : (p : ℕ → Bool) (m : Bytes) (a len : ℕ) → reading (only p m) a len ≡ (if may_use p a len then number m a len else None)
unfolding may_use
reading-only p m a len = rw (number-only p m a len) (if_both (nat_le (a + len) (2 ^ 32)) (all_pass p a len) (number m a len))
  where
    if_both : (x y : Bool) (n : Option ℕ) → (if x then (if y then n else None) else None) ≡ (if x && y then n else None)
    if_both true y n = refl
    if_both false y n = refl

-- ---- what is written

only_with_byte : (p : ℕ → Bool) (m : Bytes) (a b i : ℕ) → p a ≡ true → only p (with_byte m a b) i ≡ with_byte (only p m) a b i
unfolding only
only_with_byte p m a b i pass = grind (arith, nat_tests)

-- bytes written where all pass are written in the part
pub with_bytes-only : (p : ℕ → Bool) (m : Bytes) (a : ℕ) (bs : List ℕ) → all_pass p a (length bs) ≡ true → only p (with_bytes m a bs) ≡ with_bytes (only p m) a bs
with_bytes-only p m a [] pass = refl
with_bytes-only p m a (b ∷ bs) pass =
    let parts = both (p a) (all_pass p (a + 1) (length bs)) pass in
    rw (← with_bytes-only p m (a + 1) bs parts.1) (λ q i. only_with_byte p (with_bytes m (a + 1) bs) a b i parts.0 q)

beside_byte : (w : ℕ → Bool) (m : Bytes) (a b i : ℕ) → w a ≡ true → only (λ k. not (w k)) (with_byte m a b) i ≡ only (λ k. not (w k)) m i
unfolding only
beside_byte w m a b i pass = grind (arith, nat_tests)

-- the rest stays
pub with_bytes-beside : (w : ℕ → Bool) (m : Bytes) (a : ℕ) (bs : List ℕ) → all_pass w a (length bs) ≡ true
    → only (λ k. not (w k)) (with_bytes m a bs) ≡ only (λ k. not (w k)) m
with_bytes-beside w m a [] pass = refl
with_bytes-beside w m a (b ∷ bs) pass =
    let parts = both (w a) (all_pass w (a + 1) (length bs)) pass in
    (λ q i. beside_byte w (with_bytes m (a + 1) bs) a b i parts.0 q) ∙ with_bytes-beside w m (a + 1) bs parts.1

-- where every byte that may be written is there, the test of a store is the test alone
pub all_writable-only : (m : Bytes) (w : ℕ → Bool) (a len : ℕ) → ((i : ℕ) → w i ≡ true → is_some (m i) ≡ true) → all_writable m w a len ≡ all_pass w a len
all_writable-only m w a zero there = refl
all_writable-only m w a (suc len) there =
    rw (all_writable-only m w (a + 1) len there) (implied (is_some (m a)) (w a) (all_pass w (a + 1) len) (there a))
  where
    implied : (x y z : Bool) → (y ≡ true → x ≡ true) → ((x && y) && z) ≡ (y && z)
    implied true y z h = refl
    implied false true z h = absurd (let e : false ≡ true = h refl in cc)
    implied false false z h = refl

-- ---- whoever writes

-- what no writer may write is the same after a write that left the rest as it was
pub other_stays : (o w : ℕ → Bool) (m now : Bytes) → ((a : ℕ) → w a ≡ true → o a ≡ false)
    → only (λ a. not (w a)) now ≡ only (λ a. not (w a)) m → only o now ≡ only o m
unfolding only
other_stays o w m now apart same = λ q a. stays (o a) (w a) (now a) (m a) (apart a) (ap (λ (f : Bytes). f a) same) q
  where
    stays : (own write : Bool) (x y : Option ℕ) → (write ≡ true → own ≡ false)
        → (if not write then x else None) ≡ (if not write then y else None) → (if own then x else None) ≡ (if own then y else None)
    stays true false x y apart same = same
    stays true true x y apart same = absurd (let e : true ≡ false = apart refl in cc)
    stays false write x y apart same = refl
