-- What a sink's answers leave.
use Rattle.std.proofs.Common.{◌≡◌, ℕ, Result, Err, inl, inr}
use Rattle.host_io.specs.Faults.{HasCause}

-- an answer that isn't this error raises no count
pub stands : {T E : Type 0} (wrong : E) (before now : ℕ) (r : Result T E) → HasCause wrong before now r → (r ≡ Err wrong → ⊥) → now ≡ before
stands wrong before now r cause other = elim cause.no_fault [ inl is ↦ is | inr is ↦ absurd (other is) ]
