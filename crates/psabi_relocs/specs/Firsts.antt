-- What was noted at addresses, for the index of a section's entries alone.
use Rattle.std.specs.Prelude.{ℕ, ◌-◌, ◌<◌, ◌≤◌, ◌==◌, List, [], ◌∷◌, length, slice_index_or, Option, Some, None, if◌then◌else◌}
use Rattle.psabi_relocs.specs.declared.high.HighPart.{HighPart}
use Rattle.psabi_relocs.specs.declared.high.HighPart.TheVariants.{Distance, Slot}
use Rattle.psabi_relocs.specs.declared.reloc.Reloc.{Reloc}
use Rattle.psabi_relocs.specs.Row.{is_got_hi20}
use Rattle.psabi_relocs.specs.Field.{own_ends, relative}

-- what was noted first at the address q; each note has an address, and what it says
abbrev pub first_at : {X : Type 0} → List (ℕ × X) → ℕ → Option X
first_at [] q = None
first_at (n ∷ ns) q = if n.0 == q then Some n.1 else first_at ns q

-- what the first note says, if it is at the address q
abbrev pub head_at : {X : Type 0} → List (ℕ × X) → ℕ → Option X
head_at [] q = None
head_at (n ∷ ns) q = if n.0 == q then Some n.1 else None

-- what low parts need of the high part r: the distance to its symbol, or that it is the one to its slot
abbrev pub high_part : Reloc → HighPart
high_part r = if is_got_hi20 r.row then Slot else Distance (relative 0 (own_ends r))

-- the first of the ascending notes that isn't below the address q is one of those from i up to j, or the one at j
pub record IsAround {X : Type 0} (ns : List (ℕ × X)) (i j q : ℕ) : Type 0 where
  pub order : i ≤ j
  pub in_list : j ≤ length ns
  pub before : (d : ℕ × X) → 0 < i → (slice_index_or ns (i - 1) d).0 < q
  pub behind : (d : ℕ × X) → j < length ns → q ≤ (slice_index_or ns j d).0
