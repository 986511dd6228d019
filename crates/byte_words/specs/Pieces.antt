-- A list of bytes in pieces.
use Rattle.std.specs.Prelude.{ℕ, ◌==◌, if◌then◌else◌, List, [], ◌∷◌}

-- a byte in front of the first piece
abbrev pub in_front : ℕ → List (List ℕ) → List (List ℕ)
in_front b [] = (b ∷ []) ∷ []
in_front b (piece ∷ pieces) = (b ∷ piece) ∷ pieces

-- what stands between the bytes of one value: one piece more than there are such bytes
unfoldable pub pieces : ℕ → List ℕ → List (List ℕ)
pieces at [] = [] ∷ []
pieces at (b ∷ bs) = if b == at then [] ∷ pieces at bs else in_front b (pieces at bs)
