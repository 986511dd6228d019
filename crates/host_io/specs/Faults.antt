-- The counts that a host and a sink keep: of faults, and a sink's of shortages too.
use Rattle.std.specs.Prelude.{◌≡◌, ℕ, ◌+◌, ◌-◌, ◌^◌, ◌≤◌, ◌⊎◌, min, Result, IsErrOf}

-- the count rose, or stands at the last number of its type
abbrev pub Rose : ℕ → ℕ → Type 0
Rose before now = min (before + 1) (2 ^ 64 - 1) ≤ now

-- an answer and its count: it never falls, it rises for this error, and for no other answer
pub record HasCause {T E : Type 0} (failed : E) (before now : ℕ) (result : Result T E) : Type 0 where
  pub later : before ≤ now
  pub fault : IsErrOf result failed → Rose before now
  pub no_fault : (now ≡ before) ⊎ IsErrOf result failed
