-- A live copy holds its file, as long as that wasn't changed.
use Rattle.std.specs.Prelude.{◌≡◌, ℕ, ◌*◌, ◌<◌, List, take, drop, replicate, Some, Result, IfOk, slice_get}
use Rattle.mem_files.specs.Inodes.{Inode, Inodes, inode_at, bytes_in, bytes_of as bytes_of_file}
use Rattle.nommu_regions.specs.declared.region.Region.{Region}
use Rattle.nommu_regions.specs.declared.region.Source.{Source}
use Rattle.nommu_regions.specs.declared.region.Source.TheVariants.{Own, Copy}
use Rattle.mmap_rules.specs.declared.want.Want.{Want}
use Rattle.mmap_rules.specs.declared.want.Want.TheVariants.{Anon, File}
use Rattle.mmap_rules.specs.declared.map_fault.MapFault.{MapFault}
use Rattle.mmap_rules.specs.Space.{page_size}
use Rattle.mmap_rules.specs.Mappings.{file_pages, page_at}

-- the bytes of so many pages of memory
abbrev pub pages_at : List ℕ → (first pages : ℕ) → List ℕ
pages_at mem first pages = take (page_size * pages) (drop (page_size * first) mem)

-- the bytes of a region's pages
abbrev pub bytes_of : List ℕ → Region → List ℕ
bytes_of mem r = pages_at mem r.first r.pages

-- where the file is in the tree with this count of changes, the region has the file's bytes from its page `first` on in all its
-- pages, with zeros past the end
abbrev pub HasFile : List ℕ → Inodes → Region → (file change first : ℕ) → Type 0
HasFile mem nodes r file change first =
    (n : Inode) → inode_at nodes file ≡ Some n → change ≡ n.change → bytes_of mem r ≡ file_pages (bytes_in n.content) first r.pages

abbrev pub HasSource : List ℕ → Inodes → Region → Source → Type 0
HasSource mem nodes r Own = Unit {0}
HasSource mem nodes r (Copy file change first) = HasFile mem nodes r file change first

-- copies hold their file: each live copy whose file is in the tree with the copy's count of changes
abbrev pub AllHold : List Region → List ℕ → Inodes → Type 0
AllHold regions mem nodes = (first : ℕ) (r : Region) → slice_get regions first ≡ Some r → 0 < r.uses → HasSource mem nodes r r.source

-- a file that is wanted is there, and was changed so often
abbrev pub IsKnown : Inodes → Want → Type 0
IsKnown nodes (Anon pages) = Unit {0}
IsKnown nodes (File pages first write id change) = (n : Inode) × (inode_at nodes id ≡ Some n) × (n.change ≡ change)

-- ---- what is wanted

abbrev pub pages_of : Want → ℕ
pages_of (Anon pages) = pages
pages_of (File pages first write id change) = pages

-- zeros, or the pages of the file
abbrev pub wanted_bytes : Inodes → Want → List ℕ
wanted_bytes nodes (Anon pages) = replicate (page_size * pages) 0
wanted_bytes nodes (File pages first write id change) = file_pages (bytes_of_file nodes id) first pages

-- copies hold their file, and the pages that were mapped have what is wanted
pub record HoldWanted (nodes : Inodes) (want : Want) (regions : List Region) (mem : List ℕ) (result : Result ℕ MapFault) : Type 0 where
  pub copies : AllHold regions mem nodes
  pub bytes : IfOk result (λ addr. pages_at mem (page_at addr) (pages_of want) ≡ wanted_bytes nodes want)
