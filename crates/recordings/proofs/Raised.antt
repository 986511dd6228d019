-- A count that rises up to the most is the lesser of the sum and the most.
use Rattle.std.proofs.Common.{◌≡◌, ℕ, zero, suc, ◌+◌, ◌<◌, ◌≤◌, min, Bool, true, false, refl, arith}
use Rattle.std.specs.Prelude.{nat_lt, if◌then◌else◌}
use Rattle.std.proofs.lemmas.Bool.Decides.{nat_tests}
use Rattle.machine_world.specs.Recordings.{most_count, raised}

pub raised_is : (n count : ℕ) → count ≤ most_count → raised n count ≡ min (count + n) most_count
raised_is zero count fits = omega (arith, fits)
raised_is (suc n) count fits = by (λ c h. raised_is n c h) (nat_lt count most_count) refl
  where
    by : ((c : ℕ) → c ≤ most_count → raised n c ≡ min (c + n) most_count) → (b : Bool) → nat_lt count most_count ≡ b
        → raised n (if b then suc count else count) ≡ min (count + suc n) most_count
    by more true less = let below : count < most_count = grind (arith, nat_tests, less) in let h = more (suc count) (omega (arith, below)) in omega (arith, h)
    by more false above = let at : most_count ≤ count = grind (arith, nat_tests, above) in let h = more count fits in omega (arith, h, at, fits)
