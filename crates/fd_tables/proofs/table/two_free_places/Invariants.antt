-- The places so far have one that is free, or none.
use Rattle.std.proofs.Common.{◌≡◌, ℕ, List, ◌∷◌, drop, Option, Some, None}
use Rattle.fd_tables.specs.Files.{free_from}
use Rattle.fd_tables.proofs.table.two_free_places.Given as goal

-- numbers behind one that was found, or behind none
abbrev pub behind : Option ℕ → List ℕ → List ℕ
behind (Some n) ns = n ∷ ns
behind None ns = ns

abbrev pub invariant-loop-fd : goal.invariant-loop-fd
invariant-loop-fd l = behind l.lowest (free_from l.fd (drop l.fd l.places)) ≡ free_from 0 l.places
