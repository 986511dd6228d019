-- Counts that rise up to the most.
use Rattle.std.proofs.Common.{◌≡◌, ℕ, zero, suc, ◌+◌, Bool, true, false, refl, sym, ap, ◌∙◌, arith}
use Rattle.std.specs.Prelude.{nat_lt, if◌then◌else◌}
use Rattle.machine_world.specs.Recordings.{most_count, raised}

-- by none
pub raised_none : (b : Bool) (count : ℕ) → raised (if b then 0 else 0) count ≡ count
raised_none true count = refl
raised_none false count = refl

raised_plus : (i j count : ℕ) → raised j (raised i count) ≡ raised (i + j) count
raised_plus zero j count = let none : 0 + j ≡ j = omega arith in ap (λ n. raised n count) (sym none)
raised_plus (suc i) j count =
    let more : suc i + j ≡ suc (i + j) = omega arith in
    raised_plus i j (if nat_lt count most_count then suc count else count) ∙ ap (λ n. raised n count) (sym more)

-- one after the other
pub raised_twice : (b : Bool) (i j count : ℕ) → raised (if b then j else 0) (raised (if b then i else 0) count) ≡ raised (if b then i + j else 0) count
raised_twice true i j count = raised_plus i j count
raised_twice false i j count = refl
