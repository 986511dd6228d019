-- Lists whose items have numbers of their own.
use Rattle.std.specs.Prelude.{ℕ, suc, ◌<◌, ◌==◌, not, if◌then◌else◌, List, [], ◌∷◌, filter, Option, Some, None}

-- the first item with this number
unfoldable pub find : {A : Type 0} → (A → ℕ) → ℕ → List A → Option A
find key k [] = None
find key k (x ∷ xs) = if key x == k then Some x else find key k xs

-- the list with the first item of this number changed
unfoldable pub change : {A : Type 0} → (A → ℕ) → ℕ → (A → A) → List A → List A
change key k f [] = []
change key k f (x ∷ xs) = if key x == k then f x ∷ xs else x ∷ change key k f xs

-- the items of other numbers
unfoldable pub without : {A : Type 0} → (A → ℕ) → ℕ → List A → List A
without key k xs = filter (λ x. not (key x == k)) xs

-- the place of the first item with this number, or the end
unfoldable pub place_of : {A : Type 0} → (A → ℕ) → ℕ → List A → ℕ
place_of key k [] = 0
place_of key k (x ∷ xs) = if key x == k then 0 else suc (place_of key k xs)

-- the numbers fall along the list, from below one on
abbrev pub Falls : {A : Type 0} → (A → ℕ) → ℕ → List A → Type 0
Falls key below [] = Unit {0}
Falls key below (x ∷ xs) = (key x < below) × Falls key (key x) xs
