-- A world in order, of which the laws of those that wait speak, and three that aren't.
use Rattle.std.proofs.Common.{◌≡◌, ℕ, ◌+◌, ◌≤◌, List, [], ◌∷◌, length, Option, None, refl, arith}
use Rattle.std.specs.Prelude.{◌^◌, replicate}
use Rattle.std.proofs.lemmas.List.{length-replicate}
use Rattle.fd_tables.specs.Files.{Table, OpenFiles}
use Rattle.machine_world.specs.World.{World}
use Rattle.machine_world.specs.Order.{AreCounted, IsCounted}
use Rattle.waits_laws.specs.Laws.{IsOrdered}
use Rattle.definition_samples.proofs.Exits.{tree, running}
use Rattle.definition_samples.proofs.OrderSamples.{counted, lost}
use Rattle.definition_samples.proofs.SoundSamples.{is-sound}

abbrev now : World
now = running 0x8000_0080 0 0

-- one table, and no call
pub is-counted : IsCounted now
is-counted = record { counted = record { nodes = tree; counts = counted }; tables = omega arith; calls = omega arith }

is-ordered : IsOrdered now
is-ordered = record {
  sound = is-sound 0x8000_0080 0 0;
  counted = is-counted;
  unmarked = refl;
}

-- over no nodes a descriptor of an open file that isn't there is still one too many
refuted-counted : AreCounted lost → ⊥
refuted-counted c = let is : 0 ≡ 1 = c.counts.uses 0 in omega (arith, is)

abbrev with_files : OpenFiles → World
with_files files = record now { rest = record now.rest { files = files } }

-- more tables than those of boot, and no call
abbrev many : ℕ → List (Option Table)
many n = replicate n None

refuted-tables : IsOrdered (with_files (record now.rest.files { tables = many (2 ^ 16 + 1) })) → ⊥
refuted-tables o = let few : length (many (2 ^ 16 + 1)) ≤ 2 ^ 16 + 0 = o.counted.tables in omega (arith, few, length-replicate {A = Option Table} (2 ^ 16 + 1) None)

-- a pipe that is marked
refuted-marked : IsOrdered (with_files (record now.rest.files { changed = 1 ∷ [] })) → ⊥
refuted-marked o = marked 1 o.unmarked
  where
    marked : (n : ℕ) → n ∷ [] ≡ [] → ⊥
    marked n is = cc
