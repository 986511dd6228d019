-- The register file as the list of what the registers hold: the first place holds 0, and what belongs there stands beside.
use Rattle.std.proofs.Common.{◌≡◌, ℕ, zero, suc, List, [], ◌∷◌, refl, arith}
use Rattle.std.specs.Prelude.{false, ◌==◌, slice_index, slice_set}
use Rattle.std.proofs.lemmas.Bool.Decides.{nat_tests}
use Rattle.rv32im_step.specs.Registers.{register, with_register}

not_zero : (r : ℕ) → (suc r == 0) ≡ false
not_zero r = grind (arith, nat_tests)

pub file_of : (x : List ℕ) → slice_set (slice_set x 0 0) 0 (slice_index x 0) ≡ x
file_of [] = refl
file_of (a ∷ x) = refl

pub file_read : (x : List ℕ) (z r : ℕ) → slice_index x 0 ≡ 0 → slice_index x r ≡ register (slice_set x 0 z) r
unfolding register
file_read x z zero is = is
file_read [] z (suc r) is = rw (not_zero r) refl
file_read (a ∷ x) z (suc r) is = rw (not_zero r) refl

pub file_written : (x : List ℕ) (z r v : ℕ) → slice_set (slice_set (slice_set x r v) 0 0) 0 z ≡ with_register (slice_set x 0 z) r v
unfolding with_register
file_written [] z zero v = refl
file_written [] z (suc r) v = rw (not_zero r) refl
file_written (a ∷ x) z zero v = refl
file_written (a ∷ x) z (suc r) v = rw (not_zero r) refl

pub file_zero : (x : List ℕ) → slice_index (slice_set x 0 0) 0 ≡ 0
file_zero [] = refl
file_zero (a ∷ x) = refl

pub ruleset files = (file_of, file_read, file_written, file_zero)
