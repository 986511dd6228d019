-- Numbers that are bytes.
use Rattle.std.proofs.Common.{◌≡◌, ℕ, suc, ◌<◌, Fits, w8, get_or, Bool, true, false, List, [], ◌∷◌, refl, ap, ◌∙◌, arith}
use Rattle.std.specs.Prelude.{◌&&◌, nat_lt}
use Rattle.std.specs.List.{list_all}
use Rattle.std.proofs.lemmas.Bool.Decides.{nat_tests}

below : (b : ℕ) → b < 256 → nat_lt b 256 ≡ true
below b lt = grind (arith, nat_tests)

pub all_bytes : (bytes : List ℕ) → ((i : ℕ) → Fits w8 (get_or bytes i 0)) → list_all (λ b. nat_lt b 256) bytes ≡ true
all_bytes [] fits = refl
all_bytes (b ∷ bytes) fits =
    ap (λ (is : Bool). is && list_all (λ b. nat_lt b 256) bytes) (below b (omega (arith, fits 0))) ∙ all_bytes bytes (λ i. fits (suc i))

pub both_true : (a b : Bool) → a ≡ true → b ≡ true → (a && b) ≡ true
both_true true true p q = refl
both_true true false p q = absurd cc
both_true false b p q = absurd cc
