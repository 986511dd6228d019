-- A number's bytes in a map and in a list are the same bytes.
use Rattle.std.proofs.Common.{◌≡◌, ℕ, zero, suc, ◌+◌, ◌*◌, ◌/◌, ◌%◌, ◌^◌, List, ◌∷◌, drop, refl, sym, ap, ◌∙◌, arith}
use Rattle.std.specs.Prelude.{slice_index}
use Rattle.std.specs.Int.{byte_at, bytes_low_first}
use Rattle.std.proofs.Math.Nat.{div-div-eq-div-mul, div-one, pow-suc}
use Rattle.std.proofs.lemmas.List.{get_or-drop}
use Rattle.byteorder.specs.Endian.{little_from}
use Rattle.byteorder.specs.Endian as text
use Rattle.byte_words.specs.Numbers.{low_first, number_at}
use Rattle.byte_words.specs.ByteMap.{little_bytes, little}

byte_is : (j n : ℕ) → byte_at j n ≡ n / 256 ^ j % 256
byte_is zero n = ap (λ k. k % 256) (sym (div-one n))
byte_is (suc j) n = refl

bytes_from : (j len n : ℕ) → bytes_low_first j len n ≡ little_bytes len (n / 256 ^ j)
bytes_from j zero n = refl
bytes_from j (suc len) n =
    let shift : n / 256 ^ suc j ≡ n / 256 ^ j / 256 = ap (λ p. n / p) (pow-suc 256 j) ∙ sym (div-div-eq-div-mul n (256 ^ j) 256) in
    let first : byte_at j n ≡ n / 256 ^ j % 256 = byte_is j n in
    let later : bytes_low_first (suc j) len n ≡ little_bytes len (n / 256 ^ j / 256) = bytes_from (suc j) len n ∙ ap (little_bytes len) shift in
    (λ i. first i ∷ later i)

-- the bytes that an access writes are those of the number, the lowest first
pub little_bytes_are : (len n : ℕ) → little_bytes len n ≡ text.little_bytes len n
little_bytes_are len n = ap (little_bytes len) (sym (div-one n)) ∙ sym (bytes_from 0 len n)

little_is_from : (bytes : List ℕ) (at len : ℕ) → little bytes at len ≡ little_from at len bytes
little_is_from bytes at zero = refl
little_is_from bytes at (suc len) =
    let next : at + 1 ≡ suc at = omega arith in
    ap (λ n. slice_index bytes at + 256 * n) (little_is_from bytes (at + 1) len ∙ ap (λ k. little_from k len bytes) next)

from_drop : (bytes : List ℕ) (at k len : ℕ) → little_from k len (drop at bytes) ≡ little_from (at + k) len bytes
from_drop bytes at k zero = refl
from_drop bytes at k (suc len) =
    let next : at + suc k ≡ suc (at + k) = omega arith in
    let here : slice_index (drop at bytes) k ≡ slice_index bytes (at + k) = get_or-drop at bytes k 0 in
    let later : little_from (suc k) len (drop at bytes) ≡ little_from (suc (at + k)) len bytes = from_drop bytes at (suc k) len ∙ ap (λ j. little_from j len bytes) next in
    (λ i. here i + 256 * later i)

-- and what an access reads is the number that stands there
pub little_is : (bytes : List ℕ) (at len : ℕ) → little bytes at len ≡ number_at low_first len bytes at
unfolding number_at
little_is bytes at len =
    let same : at + 0 ≡ at = omega arith in
    little_is_from bytes at len ∙ sym (from_drop bytes at 0 len ∙ ap (λ k. little_from k len bytes) same)
