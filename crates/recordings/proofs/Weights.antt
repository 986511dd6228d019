-- What was brought, by its bytes.
use Rattle.std.proofs.Common.{◌≡◌, ℕ, ◌+◌, List, [], ◌∷◌, ◌++◌, length, refl, arith}
use Rattle.machine_world.specs.Recordings.{with_brought}

-- beside other bytes
pub beside : (lists : List (List ℕ)) (n : ℕ) → with_brought lists n ≡ with_brought lists 0 + n
beside [] n = omega arith
beside (bytes ∷ lists) n = let more = beside lists n in omega (arith, more)

-- a list more
pub with_more : (lists : List (List ℕ)) (bytes : List ℕ) (n : ℕ) → with_brought (lists ++ bytes ∷ []) n ≡ with_brought lists (length bytes + n)
with_more [] bytes n = refl
with_more (first ∷ lists) bytes n = let more = with_more lists bytes n in omega (arith, more)
