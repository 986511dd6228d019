-- A live copy holds its file, as long as that wasn't changed.
use Rattle.std.specs.Prelude.{◌≡◌, ℕ, ◌+◌, ◌<◌, ◌≤◌, true, false, List, length, Some, slice_get}
use Rattle.call_log.specs.Notes.{Note}
use Rattle.nommu_regions.specs.declared.region.Region.{Region}
use Rattle.nommu_regions.specs.declared.region.Source.{Source}
use Rattle.nommu_regions.specs.declared.region.Source.TheVariants.{Own, Copy}
use Rattle.mem_files.specs.Inodes.{Inode, Inodes, inode_at}
use Rattle.mmap_rules.specs.Copies.{AllHold}
use Rattle.memory_world.specs.Physical.{has_stray}
use Rattle.machine_world.specs.Ages.{AreChanged, kept_calls, most_at_boot}
use Rattle.kept_parts.specs.Kept.{Kept}

-- a file whose copy lives: its number was given, and its count of changes didn't fall below the copy's
pub record KnowsFile (nodes : Inodes) (file change : ℕ) : Type 0 where
  pub given : file < length nodes
  pub up : (n : Inode) → inode_at nodes file ≡ Some n → change ≤ n.change

abbrev pub KnowsSource : Inodes → Source → Type 0
KnowsSource nodes Own = Unit {0}
KnowsSource nodes (Copy file change first) = KnowsFile nodes file change

-- that of each live copy
abbrev pub AllKnown : List Region → Inodes → Type 0
AllKnown regions nodes = (id : ℕ) (r : Region) → slice_get regions id ≡ Some r → 0 < r.uses → KnowsSource nodes r.source

-- copies hold their file, and each change and each use but a start's has its kept call
pub record CopiesHold (regions : List Region) (mem : List ℕ) (nodes : Inodes) (notes : List Note) : Type 0 where
  -- as long as no stray access was noted each live copy holds its file
  pub hold : has_stray notes ≡ false → AllHold regions mem nodes
  -- its file was given, and its count didn't fall, whatever was stored
  pub known : AllKnown regions nodes
  pub changes : AreChanged (most_at_boot + kept_calls notes) nodes
  pub uses : (id : ℕ) (r : Region) → slice_get regions id ≡ Some r → r.uses ≤ 1 + kept_calls notes

-- ---- in the parts

-- each live copy holds its file: where that has the copy's count of changes, the copy has its bytes
abbrev pub HoldsFiles : Kept → Type 0
HoldsFiles k = AllHold k.regions k.mem k.tree

-- its file is known
abbrev pub KnowsFiles : Kept → Type 0
KnowsFiles k = AllKnown k.regions k.tree

-- it holds its file where a stray access was noted; as long as none was it does of itself
abbrev pub StillHolds : Kept → Type 0
StillHolds k = has_stray k.notes ≡ true → HoldsFiles k
