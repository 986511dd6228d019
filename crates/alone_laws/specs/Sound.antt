-- What holds of every world of a run, beside what is in it: one process runs in a space, the mappings of all live spaces share pages
-- of copies alone, and a copy has its file's bytes as long as the file isn't changed.
use Rattle.std.specs.Prelude.{◌≡◌, ℕ, ◌+◌, ◌-◌, ◌*◌, ◌≤◌, ◌<◌, ◌≢◌, ◌%◌, true, false, List, [], ◌∷◌, length, Some, IsSome, slice_get}
use Rattle.std.specs.List.{slice_index_or}
use Rattle.call_log.specs.Notes.{most_calls}
use Rattle.nommu_regions.specs.declared.region.Source.{Source}
use Rattle.nommu_regions.specs.declared.region.Source.TheVariants.{Own, Copy}
use Rattle.nommu_regions.specs.Regions.{is_copy}
use Rattle.mmap_rules.specs.declared.mapping.Mapping.{Mapping}
use Rattle.mmap_rules.specs.Space.{Space, page_size, in_range, has_page}
use Rattle.mmap_rules.specs.Held.{AreMappings, page_address}
use Rattle.mmap_rules.specs.Mappings.{copied_from}
use Rattle.mem_files.specs.Inodes.{Inode, Inodes, inode_at, bytes_in}
use Rattle.vfork_exec.specs.Keyed.{Falls, find}
use Rattle.vfork_exec.specs.Procs.{most_entries}
use Rattle.flat_loader.specs.Alone.{most_pages}
use Rattle.machine_world.specs.World.{Process, LiveSpace, World, pid_of, id_of}
use Rattle.machine_world.specs.Families.{AreChains}
use Rattle.machine_world.specs.MapCalls.{all_maps}
use Rattle.machine_world.specs.Ages.{AreChanged, kept_calls, most_at_boot}

-- ---- a space

-- the program's block stands at the head: its own range begins behind the header, and so at no page
pub record HasBlock (maps : List Mapping) : Type 0 where
  pub block : Mapping
  pub others : List Mapping
  pub are : maps ≡ block ∷ others
  pub begins : block.range.from % page_size ≢ 0
  pub uncut : block.range.anonymous ≡ false

pub record IsSpace (pages : ℕ) (maps : List Mapping) : Type 0 where
  pub block : HasBlock maps
  pub mappings : AreMappings pages maps
  -- the runs lie in memory
  pub inside : (j : ℕ) (m : Mapping) → slice_get maps j ≡ Some m → m.first + m.pages ≤ pages

-- ---- mappings of all spaces

-- both hold one and the same copy
pub record ShareCopy (m n : Mapping) : Type 0 where
  pub copy : is_copy m.source ≡ true
  pub first : m.first ≡ n.first
  pub pages : m.pages ≡ n.pages
  pub source : m.source ≡ n.source

abbrev pub Apart : Mapping → Mapping → Type 0
Apart m n = (page : ℕ) → has_page page m ≡ true → has_page page n ≡ true → ShareCopy m n

-- each is apart from all behind it
abbrev pub AreApart : List Mapping → Type 0
AreApart [] = Unit {0}
AreApart (m ∷ ms) = ((j : ℕ) (n : Mapping) → slice_get ms j ≡ Some n → Apart m n) × AreApart ms

-- ---- copies of files

-- the byte of a file that a copy has at an address: zero past the file's end
abbrev pub copied_byte : List ℕ → Mapping → ℕ → ℕ
copied_byte bytes m a = slice_index_or bytes (page_size * copied_from m.source + (a - page_address m.first)) 0

-- a mapping of pages of a file as it was at a count of changes: the file's number was given, its count didn't fall, and under the
-- same count the mapping has the file's bytes
pub record HoldsFile (s : Space) (nodes : Inodes) (m : Mapping) (file change : ℕ) : Type 0 where
  pub given : file < length nodes
  pub up : (n : Inode) → inode_at nodes file ≡ Some n → change ≤ n.change
  pub same : (n : Inode) (a : ℕ) → inode_at nodes file ≡ Some n → change ≡ n.change → in_range m.range a ≡ true →
      s.bytes a ≡ Some (copied_byte (bytes_in n.content) m a)

abbrev pub HoldsSource : Space → Inodes → Mapping → Source → Type 0
HoldsSource s nodes m Own = Unit {0}
HoldsSource s nodes m (Copy file change first) = HoldsFile s nodes m file change

abbrev pub HoldCopies : Inodes → Space → Type 0
HoldCopies nodes s = (j : ℕ) (m : Mapping) → slice_get s.maps j ≡ Some m → HoldsSource s nodes m m.source

-- ---- a world

-- the most pids that are given before the first call, and one more; each other one has its kept call
abbrev pub most_given : ℕ
most_given = 1 + most_entries

pub record IsSound (w : World) : Type 0 where
  pub some : 1 ≤ w.rest.pages
  pub most : w.rest.pages ≤ most_pages
  -- pids and numbers of spaces are given once
  pub pids : Falls pid_of w.next_pid w.procs
  pub numbers : Falls id_of w.loads w.spaces
  pub given : w.next_pid ≤ most_given + kept_calls w.notes
  -- each process runs in a live space, which its owner may have lent: one runner a space
  pub homes : (pid : ℕ) (p : Process) → find pid_of pid w.procs ≡ Some p → IsSome (find id_of p.space w.spaces)
  pub chains : AreChains w.procs
  -- mappings
  pub spaces : (i : ℕ) (s : LiveSpace) → find id_of i w.spaces ≡ Some s → IsSpace w.rest.pages s.space.maps
  pub apart : AreApart (all_maps w.spaces)
  pub copies : (i : ℕ) (s : LiveSpace) → find id_of i w.spaces ≡ Some s → HoldCopies w.rest.tree s.space
  -- each change of a file has its kept call
  pub changes : AreChanged (most_at_boot + kept_calls w.notes) w.rest.tree
  pub calls : kept_calls w.notes ≤ most_calls
