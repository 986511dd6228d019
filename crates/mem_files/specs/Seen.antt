-- The entries of a folder as plain values.
use Rattle.std.specs.Prelude.{ℕ, List, Vec}
use Rattle.std.specs.Borrow.{Bor}
use Rattle.std.specs.List.{IsDistinct}
use Rattle.std.specs.Map.{keys_of}
use Rattle.std.specs.Str.{bytes_eq}
use Rattle.mem_files.specs.Inodes.{Entry}

-- an entry as the map keeps it
abbrev pub entry_in : {Z : Type 0} → Vec ℕ Z × ℕ → Entry
entry_in e = record { name = e.0.items; id = e.1 }

-- an entry as it is lent
abbrev pub entry_of : Bor (List ℕ) × ℕ → Entry
entry_of e = record { name = e.0.now; id = e.1 }

-- no two entries have one name
abbrev pub AreApart : {Z : Type 0} → List (Vec ℕ Z × ℕ) → Type 0
AreApart es = IsDistinct (λ a b. bytes_eq a.items b.items) (keys_of es)
