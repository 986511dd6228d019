-- When the one memory of a run that goes on stands for a world of private spaces, as it does up to the first stray access.
use Rattle.std.specs.Prelude.{◌≡◌, ℕ, ◌+◌, ◌≤◌, Bool, ◌&&◌, nat_le, nat_lt, is_some, true, List, length, Some, slice_get}
use Rattle.byte_words.specs.ByteMap.{Bytes}
use Rattle.nommu_regions.specs.declared.region.Source.{Source}
use Rattle.nommu_regions.specs.declared.region.Source.TheVariants.{Own, Copy}
use Rattle.mmap_rules.specs.declared.mapping.Mapping.{Mapping}
use Rattle.mmap_rules.specs.Held.{page_address}
use Rattle.mem_files.specs.Inodes.{Inode, Inodes, inode_at, bytes_in}
use Rattle.flat_loader.specs.Original.{header_len}
use Rattle.vfork_exec.specs.Keyed.{find}
use Rattle.machine_world.specs.World.{LiveSpace, World, id_of}
use Rattle.memory_world.specs.Physical.{Physical, in_memory}
use Rattle.memory_world.specs.Courses.{IsShown}
use Rattle.alone_laws.specs.Sound.{copied_byte}

-- an address in the pages that a mapping holds, own or not
abbrev pub in_pages : Mapping → ℕ → Bool
in_pages m a = nat_le (page_address m.first) a && nat_lt a (page_address (m.first + m.pages))

-- all pages of a copy have the bytes of the file, as long as that isn't changed: a later mapping may share any of them
abbrev pub HoldsPages : Bytes → Inodes → Mapping → Source → Type 0
HoldsPages memory nodes m Own = Unit {0}
HoldsPages memory nodes m (Copy file change first) =
    (n : Inode) (a : ℕ) → inode_at nodes file ≡ Some n → change ≡ n.change → in_pages m a ≡ true → memory a ≡ Some (copied_byte (bytes_in n.content) m a)

abbrev pub HoldAllPages : Bytes → Inodes → List Mapping → Type 0
HoldAllPages memory nodes maps = (j : ℕ) (m : Mapping) → slice_get maps j ≡ Some m → HoldsPages memory nodes m m.source

-- a header is no longer than the bytes of a block that belong to nobody
abbrev pub AreHeaders : List (List ℕ) → Type 0
AreHeaders headers = (i : ℕ) (header : List ℕ) → slice_get headers i ≡ Some header → length header ≤ header_len

-- memory stands for a world of private spaces
pub record Stands (w : World) (p : Physical) : Type 0 where
  pub world : p.world ≡ w
  -- every space has what memory has in its own ranges
  pub shown : IsShown p
  -- memory has each of its addresses, and no other
  pub all : (a : ℕ) → is_some (p.memory a) ≡ in_memory w a
  -- and the bytes of the files in all pages of their copies
  pub copies : (i : ℕ) (s : LiveSpace) → find id_of i w.spaces ≡ Some s → HoldAllPages p.memory w.rest.tree s.space.maps
  pub headers : AreHeaders p.headers
