-- What a sink tells, and what a write does to it.
use Rattle.std.specs.Prelude.{◌≡◌, ℕ, ◌≤◌, ◌<◌, ◌⊎◌, List, [], ◌++◌, length, take, Option, option_map, Result, Ok, Err, IsErrOf}
use Rattle.host_io.specs.Faults.{Rose}
use Rattle.host_io.specs.declared.sink.SinkError.{SinkError}
use Rattle.host_io.specs.declared.sink.SinkError.TheVariants.{Failed}

-- the sink took these bytes and no others, if it tells
abbrev pub Takes : Option (List ℕ) → Option (List ℕ) → List ℕ → Type 0
Takes old new bytes = new ≡ option_map (λ taken. taken ++ bytes) old

-- the sink took a prefix of these bytes, and this rest is left
pub record Sent (old new : Option (List ℕ)) (bytes rest : List ℕ) : Type 0 where
  pub prefix : List ℕ
  pub whole : bytes ≡ prefix ++ rest
  pub taken : Takes old new prefix

-- the sink took a prefix of these bytes, and not all of them
abbrev pub TakesPrefix : Option (List ℕ) → Option (List ℕ) → List ℕ → Type 0
TakesPrefix old new bytes = (rest : List ℕ) × (0 < length rest) × Sent old new bytes rest

-- the bytes of a piece that one write took
abbrev pub bytes_taken : Result ℕ SinkError → List ℕ → List ℕ
bytes_taken (Ok n) piece = take n piece
bytes_taken (Err e) piece = []

-- the answers of one write that are faults: Failed, and nothing taken of a piece that isn't empty
abbrev pub IsWriteFault : Result ℕ SinkError → List ℕ → Type 0
IsWriteFault result piece = IsErrOf result Failed ⊎ ((result ≡ Ok 0) × (0 < length piece))

-- the count never falls, it rises for a fault, and for no other answer
pub record HasWriteCause (before now : ℕ) (piece : List ℕ) (result : Result ℕ SinkError) : Type 0 where
  pub later : before ≤ now
  pub fault : IsWriteFault result piece → Rose before now
  pub no_fault : (now ≡ before) ⊎ IsWriteFault result piece
