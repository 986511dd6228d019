-- Some number that passes, and the first row of a table that holds.
use Rattle.std.specs.Prelude.{ℕ, Bool, if◌then◌else◌, List, [], ◌∷◌, Option, Some, None}
use Rattle.std.specs.List.{list_any, range_with_len}

-- some number below n passes p
unfoldable pub any_below : (ℕ → Bool) → ℕ → Bool
any_below p n = list_any p (range_with_len 0 n)

-- what stands beside the first test that holds
abbrev pub first : {F : Type 0} → List (Bool × F) → Option F
first [] = None
first (row ∷ rows) = if row.0 then Some row.1 else first rows
