-- What one array of bytes is as a map.
use Rattle.std.proofs.Common.{◌≡◌, ℕ, zero, suc, ◌+◌, ◌-◌, ◌/◌, ◌≤◌, ◌<◌, ◌^◌, length, List, [], ◌∷◌, arith, refl, ap, ◌∙◌, sym, inl, inr, ◌≢◌, length-set}
use Rattle.std.specs.Prelude.{Option, Some, None, slice_get, slice_index, slice_set}
use Rattle.std.proofs.lemmas.Bool.Decides.{nat_tests}
use Rattle.std.proofs.lemmas.Option.{slice_get_past, slice_get-get_or}
use Rattle.std.proofs.lemmas.List.{get_or-set_same, get_or-set_other}
use Rattle.std.proofs.lemmas.Bool.{cases_lt}
use Rattle.byte_words.specs.ByteMap.{little_bytes, with_low, number, with_byte, with_bytes, byte_of, place_of, little, overwritten}
use Rattle.byte_words.specs.Patches.{laid}
use Rattle.byte_words.proofs.Laid.{length-overwritten, overwritten_is_laid}

-- ---- one byte

pub byte_before : (base : ℕ) (bytes : List ℕ) (addr : ℕ) → addr < base → byte_of base bytes addr ≡ None
byte_before base bytes addr before = grind (arith, nat_tests)

pub byte_past : (base : ℕ) (bytes : List ℕ) (addr : ℕ) → base + length bytes ≤ addr → byte_of base bytes addr ≡ None
byte_past base bytes addr past = grind (arith, nat_tests, slice_get_past bytes (addr - base))

pub byte_at :
    (base : ℕ) (bytes : List ℕ) (at : ℕ) → at < length bytes → byte_of base bytes (base + at) ≡ Some (slice_index bytes at)
byte_at base bytes at within = grind (arith, nat_tests, slice_get-get_or bytes (base + at - base) 0)

pub get-set_same : (bytes : List ℕ) (at v : ℕ) → at < length bytes → slice_get (slice_set bytes at v) at ≡ Some v
get-set_same bytes at v within =
    slice_get-get_or (slice_set bytes at v) at 0 (omega (arith, length-set {A = ℕ})) ∙
    ap (λ (x : ℕ). Some x) (get_or-set_same bytes at v 0 within)

pub get-set_other :
    (bytes : List ℕ) (at v k : ℕ) → k ≢ at → slice_get (slice_set bytes at v) k ≡ slice_get bytes k
get-set_other bytes at v k other =
    elim (cases_lt k (length bytes)) [
      | inl within ↦
          slice_get-get_or (slice_set bytes at v) k 0 (omega (arith, length-set {A = ℕ})) ∙
          (ap (λ (x : ℕ). Some x) (get_or-set_other bytes at k v 0 other) ∙ sym (slice_get-get_or bytes k 0 within))
      | inr past ↦
          slice_get_past (slice_set bytes at v) k (omega (arith, length-set {A = ℕ})) ∙ sym (slice_get_past bytes k past)
    ]

-- one byte set is one byte of the map
pub byte_of-set :
    (base : ℕ) (bytes : List ℕ) (at v : ℕ) → at < length bytes → (i : ℕ) →
    byte_of base (slice_set bytes at v) i ≡ with_byte (byte_of base bytes) (base + at) v i
byte_of-set base bytes at v within i =
    grind (arith, nat_tests, get-set_same bytes at v within, get-set_other bytes at v (i - base))

-- ---- numbers

pub with_low_none : (low : Option ℕ) → with_low low None ≡ None
with_low_none (Some low) = refl
with_low_none None = refl

pub number_before : (base : ℕ) (bytes : List ℕ) (addr len : ℕ) → addr < base → number (byte_of base bytes) addr (suc len) ≡ None
number_before base bytes addr len before = rw (byte_before base bytes addr before)

pub number_past :
    (base : ℕ) (bytes : List ℕ) (addr len : ℕ) → base + length bytes < addr + suc len →
    number (byte_of base bytes) addr (suc len) ≡ None
number_past base bytes addr zero past = rw (byte_past base bytes addr (omega arith))
number_past base bytes addr (suc len) past =
    rw (number_past base bytes (addr + 1) len (omega arith)) (with_low_none (byte_of base bytes addr))

pub number_within :
    (base : ℕ) (bytes : List ℕ) (at len : ℕ) → at + len ≤ length bytes →
    number (byte_of base bytes) (base + at) len ≡ Some (little bytes at len)
number_within base bytes at zero within = refl
number_within base bytes at (suc len) within =
    let next : base + at + 1 ≡ base + (at + 1) = omega arith in
    rw (next, byte_at base bytes at (omega arith), number_within base bytes (at + 1) len (omega arith))

-- ---- the bytes written

pub byte_of-overwritten :
    (base : ℕ) (bytes : List ℕ) (at : ℕ) (vs : List ℕ) → at + length vs ≤ length bytes →
    byte_of base (overwritten bytes at vs) ≡ with_bytes (byte_of base bytes) (base + at) vs
byte_of-overwritten base bytes at [] within = refl
byte_of-overwritten base bytes at (v ∷ vs) within =
    let next : base + at + 1 ≡ base + (at + 1) = omega arith in
    let same : at < length (overwritten bytes (at + 1) vs) = omega (arith, length-overwritten bytes (at + 1) vs) in
    rw (next, ← byte_of-overwritten base bytes (at + 1) vs (omega arith)) (λ q i. byte_of-set base (overwritten bytes (at + 1) vs) at v same i q)

-- and so are bytes laid over the array
pub byte_of-laid :
    (base : ℕ) (bytes : List ℕ) (at : ℕ) (vs : List ℕ) → at + length vs ≤ length bytes →
    byte_of base (laid bytes at vs) ≡ with_bytes (byte_of base bytes) (base + at) vs
byte_of-laid base bytes at vs within =
    ap (byte_of base) (sym (overwritten_is_laid bytes at vs within)) ∙ byte_of-overwritten base bytes at vs within

-- ---- as many bytes as were asked for

pub length-little_bytes : (len n : ℕ) → length (little_bytes len n) ≡ len
length-little_bytes zero n = refl
length-little_bytes (suc len) n = ap suc (length-little_bytes len (n / 256))

-- ---- the place of a range

pub place_is :
    (base total addr len at : ℕ) → place_of base total addr len ≡ Some at →
    (addr ≡ base + at) × (at + len ≤ total) × (addr + len ≤ 2 ^ 32)
unfolding place_of
place_is base total addr len at is = grind (arith, nat_tests)

-- the lowest bytes of a number written one by one
pub laid_little :
    (bytes : List ℕ) (at len n : ℕ) → at + len ≤ length bytes → overwritten bytes at (little_bytes len n) ≡ laid bytes at (little_bytes len n)
laid_little bytes at len n fits = overwritten_is_laid bytes at (little_bytes len n) (omega (arith, length-little_bytes len n))
