-- The two lowest descriptors that are free: both are there, free, and not the same.
use Rattle.std.proofs.Common.{◌≡◌, ℕ, zero, suc, ◌+◌, ◌<◌, ◌≤◌, List, [], ◌∷◌, length, Option, Some, None, refl, arith}
use Rattle.fd_tables.specs.declared.pipe_view.Ends.{Ends}
use Rattle.fd_tables.specs.Files.{at_number, free_from, first_two}

module _ {A : Type 0} where
  abbrev IsFree : ℕ → List (Option A) → ℕ → Type 0
  IsFree i xs j = (k : ℕ) → j ≡ i + k → (k < length xs) × (at_number xs k ≡ None)

  -- numbers that rise from low on, each of a free place of a list of which the first place has the number i
  abbrev AllFree : ℕ → List (Option A) → ℕ → List ℕ → Type 0
  AllFree i xs low [] = Unit {0}
  AllFree i xs low (j ∷ js) = (low ≤ j) × IsFree i xs j × AllFree i xs (suc j) js

  lower : (i : ℕ) (xs : List (Option A)) (low less : ℕ) (js : List ℕ) → less ≤ low → AllFree i xs low js → AllFree i xs less js
  lower i xs low less [] le all = tt
  lower i xs low less (j ∷ js) le all = (omega (arith, all.0), all.1, all.2)

  behind_one : (i j : ℕ) (x : Option A) (xs : List (Option A)) → suc i ≤ j → IsFree (suc i) xs j → IsFree i (x ∷ xs) j
  behind_one i j x xs le free zero e = absurd (omega arith)
  behind_one i j x xs le free (suc k) e = let h = free k (omega arith) in (omega (arith, h.0), h.1)

  behind : (i low : ℕ) (x : Option A) (xs : List (Option A)) (js : List ℕ) → suc i ≤ low → AllFree (suc i) xs low js → AllFree i (x ∷ xs) low js
  behind i low x xs [] le all = tt
  behind i low x xs (j ∷ js) le all = (all.0, behind_one i j x xs (omega (arith, all.0)) all.1, behind i (suc j) x xs js (omega (arith, all.0)) all.2)

  first_one : (i : ℕ) (xs : List (Option A)) → IsFree i (None ∷ xs) i
  first_one i xs zero e = (omega arith, refl)
  first_one i xs (suc k) e = absurd (omega arith)

  all_free : (i : ℕ) (xs : List (Option A)) → AllFree i xs i (free_from i xs)
  all_free i [] = tt
  all_free i (None ∷ xs) = (omega arith, first_one i xs, behind i (suc i) None xs (free_from (suc i) xs) (omega arith) (all_free (suc i) xs))
  all_free i (Some x ∷ xs) = lower i (Some x ∷ xs) (suc i) i (free_from (suc i) xs) (omega arith) (behind i (suc i) (Some x) xs (free_from (suc i) xs) (omega arith) (all_free (suc i) xs))

  pub record TwoFree (xs : List (Option A)) (ends : Ends) : Type 0 where
    pub read_inside : ends.read < length xs
    pub read_free : at_number xs ends.read ≡ None
    pub write_inside : ends.write < length xs
    pub write_free : at_number xs ends.write ≡ None
    pub rise : ends.read < ends.write

  two_by : (xs : List (Option A)) (js : List ℕ) (ends : Ends) → first_two js ≡ Some ends → AllFree 0 xs 0 js → TwoFree xs ends
  two_by xs [] ends is all = let no : ⊥ = cc in absurd no
  two_by xs (r ∷ []) ends is all = let no : ⊥ = cc in absurd no
  two_by xs (r ∷ w ∷ js) ends is all =
      let read_is : ends.read ≡ r = cc in
      let write_is : ends.write ≡ w = cc in
      let read = all.1 ends.read (omega arith) in
      let write = all.2.1 ends.write (omega arith) in
      record { read_inside = read.0; read_free = read.1; write_inside = write.0; write_free = write.1; rise = omega (arith, all.2.0, read_is, write_is) }

  pub two_free_there : (xs : List (Option A)) (ends : Ends) → first_two (free_from 0 xs) ≡ Some ends → TwoFree xs ends
  two_free_there xs ends is = two_by xs (free_from 0 xs) ends is (all_free 0 xs)
