-- Mappings that come and go (Linux, "No-MMU memory mapping support", Documentation/admin-guide/mm/nommu-mmap.rst; mmap(2), munmap(2),
-- in this project's profile).
use Rattle.std.specs.Prelude.{ℕ, ◌≡◌, ◌+◌, ◌-◌, ◌^◌, ◌<◌, ◌≤◌, true, ◌*◌, ◌/◌, ◌%◌, ◌==◌, Bool, false, not, ◌&&◌, ◌||◌, nat_le, if◌then◌else◌, List, [], ◌∷◌, ◌++◌, length, take, drop, replicate, position, Option, Some, None, slice_get}
use Rattle.nommu_regions.specs.declared.region.Region.{Region}
use Rattle.nommu_regions.specs.declared.region.Source.{Source}
use Rattle.nommu_regions.specs.declared.region.Source.TheVariants.{Own, Copy}
use Rattle.nommu_regions.specs.Regions.{is_copy}
use Rattle.mmap_rules.specs.declared.mapping.Mapping.{Mapping}
use Rattle.mmap_rules.specs.declared.page_owner.PageOwner.{PageOwner}
use Rattle.mmap_rules.specs.Space.{memory_base, page_size}
use Rattle.mmap_rules.specs.Owners.{meets, Says}
use Rattle.mmap_rules.specs.Held.{page_address, IsMapping}
use Rattle.mmap_rules.specs.Want.{pages_for}

-- ---- a mapping more

-- all of a run of pages
abbrev pub run_mapping : (first pages : ℕ) → (writes anonymous : Bool) → Source → Mapping
run_mapping first pages writes anonymous source = record {
  first = first;
  pages = pages;
  range = record { from = page_address first; size = page_size * pages; writes = writes; anonymous = anonymous };
  source = source;
}

-- the first page of the file that a copy has
abbrev pub copied_from : Source → ℕ
copied_from Own = 0
copied_from (Copy file change first) = first

-- pages of a run of `held` pages, from its page `skip` on, which may be read
abbrev pub part_mapping : (first held : ℕ) → Source → (skip pages : ℕ) → Mapping
part_mapping first held source skip pages = record {
  first = first;
  pages = held;
  range = record { from = page_address (first + skip); size = page_size * pages; writes = false; anonymous = false };
  source = source;
}

-- a live region is a copy that has so many pages of a file from its page `first` on
pub record CopyHas (rs : List Region) (id first pages : ℕ) : Type 0 where
  pub region : Region
  pub there : slice_get rs id ≡ Some region
  pub live : 0 < region.uses
  pub copy : is_copy region.source ≡ true
  pub from : copied_from region.source ≤ first
  pub to : first + pages ≤ copied_from region.source + region.pages

-- so many bytes: these, and zeros behind them
abbrev pub filled : ℕ → List ℕ → List ℕ
filled len bytes = bytes ++ replicate (len - length bytes) 0

-- pages of a file, with zeros past its end
unfoldable pub file_pages : List ℕ → (first pages : ℕ) → List ℕ
file_pages bytes first pages = filled (page_size * pages) (take (page_size * pages) (drop (page_size * first) bytes))

-- a run has a page, and only one of its own can be written or is anonymous
pub record IsNewRun (pages : ℕ) (writes anonymous : Bool) (source : Source) : Type 0 where
  pub some : 0 < pages
  pub written : writes ≡ true → source ≡ Own
  pub whole : anonymous ≡ true → source ≡ Own

-- the entries of the pages can count one mapping more, and where others have bytes in a page of the mapping, they agree
pub record CanAdd (table : List PageOwner) (m : Mapping) : Type 0 where
  pub mapping : IsMapping (length table) m
  pub few : (page : ℕ) (o : PageOwner) → slice_get table page ≡ Some o → o.uses < 2 ^ 32 - 1
  pub agrees : (page : ℕ) (o : PageOwner) → slice_get table page ≡ Some o → meets m.range page ≡ true → 0 < o.uses → Says o page m.range

-- ---- a mapping less

-- the own range of the mapping is this one
abbrev pub is_range : (addr size : ℕ) → Mapping → Bool
is_range addr size m = m.range.from == addr && m.range.size == size

-- the mapping is anonymous, and its own range has this one
abbrev pub can_lose : (addr size : ℕ) → Mapping → Bool
can_lose addr size m = m.range.anonymous && nat_le m.range.from addr && nat_le (addr + size) (m.range.from + m.range.size)

-- so many whole pages, one at least, from an address on are an anonymous mapping's, which stands at a place of the list
pub record CanLose (maps : List Mapping) (place addr pages : ℕ) : Type 0 where
  pub begins : addr % page_size ≡ 0
  pub some : 0 < pages
  pub there : place < length maps
  pub can : (m : Mapping) → slice_get maps place ≡ Some m → can_lose addr (page_size * pages) m ≡ true

-- the page at an address
abbrev pub page_at : ℕ → ℕ
page_at addr = (addr - memory_base) / page_size

-- the pages of an anonymous mapping from one address up to another, if there are any
abbrev pub part_of : Mapping → (from to : ℕ) → List Mapping
part_of m from to =
    if from == to then [] else run_mapping (page_at from) ((to - from) / page_size) m.range.writes m.range.anonymous m.source ∷ []

-- what is left of it without a range
abbrev pub left_of : Mapping → (addr size : ℕ) → List Mapping
left_of m addr size = part_of m m.range.from addr ++ part_of m (addr + size) (m.range.from + m.range.size)

-- the mapping at a place of the list, and what is left of it
pub record Hit : Type 0 where
  pub at : ℕ
  pub mapping : Mapping
  pub left : List Mapping

abbrev pub hit_at : List Mapping → (Mapping → List Mapping) → Option ℕ → Option Hit
hit_at maps left None = None
hit_at maps left (Some at) = by_mapping (slice_get maps at)
  where
    by_mapping : Option Mapping → Option Hit
    by_mapping (Some m) = Some (record { at = at; mapping = m; left = left m })
    by_mapping None = None

abbrev pub or_hit : Option Hit → Option Hit → Option Hit
or_hit (Some h) other = Some h
or_hit None other = other

-- the oldest mapping that has just the range, which goes; where there is none, the anonymous one that has the range
abbrev pub hit_in : List Mapping → (addr size : ℕ) → Option Hit
hit_in maps addr size =
    or_hit (hit_at maps (λ m. []) (position (is_range addr size) maps)) (hit_at maps (λ m. left_of m addr size) (position (can_lose addr size) maps))

-- what munmap hits: whole pages from an address on. A block's own range begins behind its header and so on no page, so that no
-- block is hit
unfoldable pub hit : List Mapping → (addr len : ℕ) → Option Hit
hit maps addr len = if len == 0 || not (addr % page_size == 0) then None else hit_in maps addr (page_size * pages_for len)

-- the mappings behind it: what is left stands where the mapping stood
unfoldable pub without_hit : List Mapping → Hit → List Mapping
without_hit maps h = take h.at maps ++ h.left ++ drop (h.at + 1) maps
