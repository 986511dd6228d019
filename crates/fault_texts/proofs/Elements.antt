-- What holds of each element of a list.
use Rattle.std.proofs.Common.{◌≡◌, ℕ, zero, suc, ◌<◌, inl, inr, Bool, List, [], ◌∷◌, filter, length, slice_get, slice_index_or, Some, take, refl, subst, arith}
use Rattle.std.specs.List.{AllByRecursion as Each}
use Rattle.std.proofs.lemmas.Bool.{cases_Bool}
use Rattle.std.proofs.lemmas.Option.{same_Some}

pub each_there : {X : Type 0} (P : X → Type 0) (xs : List X) → Each P xs → (k : ℕ) (x : X) → slice_get xs k ≡ Some x → P x
each_there P [] all k x there = absurd cc
each_there P (y ∷ xs) all zero x there = subst P (same_Some y x there) all.0
each_there P (y ∷ xs) all (suc k) x there = each_there P xs all.1 k x there

pub each_kept : {X : Type 0} (P : X → Type 0) (test : X → Bool) (xs : List X) → Each P xs → Each P (filter test xs)
each_kept P test [] all = tt
each_kept P test (x ∷ xs) all = elim (cases_Bool (test x)) [
  | inl here ↦ rw here (all.0, each_kept P test xs all.1)
  | inr other ↦ rw other (each_kept P test xs all.1)
]

pub get_each : {X : Type 0} (P : X → Type 0) (xs : List X) (k : ℕ) (d : X) → k < length xs → Each P xs → P (slice_index_or xs k d)
get_each P [] k d below all = absurd (omega arith)
get_each P (x ∷ xs) zero d below all = all.0
get_each P (x ∷ xs) (suc k) d below all = get_each P xs k d (omega arith) all.1

pub each_always : {X : Type 0} (P : X → Type 0) → ((x : X) → P x) → (xs : List X) → Each P xs
each_always P holds [] = tt
each_always P holds (x ∷ xs) = (holds x, each_always P holds xs)

pub each_from : {X : Type 0} (P : X → Type 0) (xs : List X) → ((k : ℕ) (x : X) → slice_get xs k ≡ Some x → P x) → Each P xs
each_from P [] holds = tt
each_from P (x ∷ xs) holds = (holds 0 x refl, each_from P xs (λ k y there. holds (suc k) y there))

-- an element of a front
pub there_taken : {X : Type 0} (n : ℕ) (xs : List X) (k : ℕ) (x : X) → slice_get (take n xs) k ≡ Some x → slice_get xs k ≡ Some x
there_taken zero xs k x there = absurd cc
there_taken (suc n) [] k x there = there
there_taken (suc n) (y ∷ xs) zero x there = there
there_taken (suc n) (y ∷ xs) (suc k) x there = there_taken n xs k x there
