-- What a plain bus's array is as a map.
use Rattle.std.proofs.Common.{◌≡◌, ℕ, zero, suc, ◌+◌, ◌<◌, ◌^◌, length, List, arith, refl}
use Rattle.std.specs.Prelude.{true, ◌&&◌, nat_le, is_some, Option, Some, None, Ok, Err}
use Rattle.std.proofs.lemmas.Bool.Decides.{nat_tests}
use Rattle.byte_words.specs.ByteMap.{Bytes, with_low, number, little_bytes, byte_of, place_of, little, overwritten}
use Rattle.byte_words.proofs.ByteArrays.{number_before, number_past, number_within, byte_of-overwritten, length-little_bytes, place_is}
use Rattle.byte_words.specs.declared.access.Access.{Access}
use Rattle.rv32im_step.specs.ByteBus.{writable_of}
use Rattle.rv32im_step.specs.Memory.{reading, all_writable, stored}

-- every byte that is there may be written
all_writable-is : (m : Bytes) (addr len : ℕ) → all_writable m writable_of addr len ≡ is_some (number m addr len)
all_writable-is m addr zero = refl
all_writable-is m addr (suc len) = rw (all_writable-is m (addr + 1) len) (with_low_is (m addr) (number m (addr + 1) len))
  where
    with_low_is : (low high : Option ℕ) → (is_some low && true && is_some high) ≡ is_some (with_low low high)
    with_low_is (Some low) (Some high) = refl
    with_low_is (Some low) None = refl
    with_low_is None high = refl

pub reading_placed :
    (base : ℕ) (bytes : List ℕ) (addr len at : ℕ) → place_of base (length bytes) addr len ≡ Some at →
    reading (byte_of base bytes) addr len ≡ Some (little bytes at len)
reading_placed base bytes addr len at is =
    let placed = place_is base (length bytes) addr len at is in
    let same = number_within base bytes at len placed.1 in
    let is_addr : addr ≡ base + at = placed.0 in
    let range : nat_le (addr + len) (2 ^ 32) ≡ true = grind (arith, nat_tests, placed.2) in
    rw (range, is_addr) same

pub reading_unplaced :
    (base : ℕ) (bytes : List ℕ) (addr len : ℕ) → 0 < len → place_of base (length bytes) addr len ≡ None →
    reading (byte_of base bytes) addr len ≡ None
unfolding place_of
reading_unplaced base bytes addr zero some is = absurd (omega arith)
reading_unplaced base bytes addr (suc len) some is =
    grind (arith, nat_tests, number_before base bytes addr len, number_past base bytes addr len)

pub stored_placed :
    (base : ℕ) (bytes : List ℕ) (a : Access) (n at : ℕ) → place_of base (length bytes) a.addr a.len ≡ Some at →
    stored (byte_of base bytes) writable_of a n ≡ Ok (byte_of base (overwritten bytes at (little_bytes a.len n)))
unfolding stored
stored_placed base bytes a n at is =
    let placed = place_is base (length bytes) a.addr a.len at is in
    let is_addr : a.addr ≡ base + at = placed.0 in
    let range : nat_le (a.addr + a.len) (2 ^ 32) ≡ true = grind (arith, nat_tests, placed.2) in
    let written = byte_of-overwritten base bytes at (little_bytes a.len n) (omega (arith, placed.1, length-little_bytes a.len n)) in
    rw (range, all_writable-is (byte_of base bytes) a.addr a.len, is_addr, number_within base bytes at a.len placed.1, written)

pub stored_unplaced :
    (base : ℕ) (bytes : List ℕ) (a : Access) (n : ℕ) → 0 < a.len → place_of base (length bytes) a.addr a.len ≡ None →
    stored (byte_of base bytes) writable_of a n ≡ Err a
unfolding stored
stored_unplaced base bytes a n some is =
    grind (arith, nat_tests, all_writable-is (byte_of base bytes) a.addr a.len, reading_unplaced base bytes a.addr a.len some is)

pub ruleset places = (place_is, reading_placed, reading_unplaced, stored_placed, stored_unplaced)
