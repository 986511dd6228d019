-- Signed products of words, which the code makes in 64 bits.
use Rattle.std.proofs.Common.{◌≡◌, ℕ, ◌-◌, ◌/◌, ◌≤◌, ◌<◌, ◌^◌, arith}
use Rattle.std.specs.Prelude.{ℤ, pos, negsuc, ◌*ℤ◌, FitsSigned, unsigned_abs}
use Rattle.std.specs.Int.{cast_unsigned, w64}
use Rattle.std.proofs.lemmas.Int.{fits_signed_mul, to_z-of_z}
use Rattle.std.proofs.lemmas.Bool.Decides.{nat_tests}
use Rattle.rv32im_step.specs.Word.{signed}
use Rattle.rv32im_step.specs.Multiply.{upper}

pub upper_is : (product : ℤ) → FitsSigned w64 product → cast_unsigned w64 product / 2 ^ 32 ≡ upper product
upper_is (pos n) fits = omega (arith, fits.sfits)
upper_is (negsuc n) fits = omega (arith, fits.sfits)

pub unsigned_abs-signed : (a : ℕ) → a < 2 ^ 32 → unsigned_abs (signed a) ≤ 2 ^ 31
unsigned_abs-signed a fits = grind (arith, nat_tests)

pub mulh_fits : (a b : ℕ) → a < 2 ^ 32 → b < 2 ^ 32 → FitsSigned w64 (signed a *ℤ signed b)
mulh_fits a b f g =
    fits_signed_mul w64 (signed a) (signed b) (2 ^ 31) (2 ^ 31) (unsigned_abs-signed a f) (unsigned_abs-signed b g) (omega arith)

pub mulhsu_fits : (a b : ℕ) → a < 2 ^ 32 → b < 2 ^ 32 → FitsSigned w64 (signed a *ℤ pos b)
mulhsu_fits a b f g =
    fits_signed_mul w64 (signed a) (pos b) (2 ^ 31) (2 ^ 32 - 1) (unsigned_abs-signed a f) (omega arith) (omega arith)

pub ruleset products = (mulh_fits, mulhsu_fits, to_z-of_z)
