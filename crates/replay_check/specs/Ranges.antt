-- The ranges of one program, in memory of all its pages.
use Rattle.std.specs.Prelude.{◌≡◌, ℕ, ◌+◌, ◌-◌, ◌*◌, ◌/◌, ◌%◌, ◌<◌, ◌≢◌, true, false, List, ◌∷◌, length, map, slice_get, Some}
use Rattle.nommu_regions.specs.declared.region.Source.TheVariants.{Own}
use Rattle.mmap_rules.specs.declared.mapping.Range.{Range}
use Rattle.mmap_rules.specs.declared.mapping.Mapping.{Mapping}
use Rattle.mmap_rules.specs.declared.page_owner.PageOwner.{PageOwner}
use Rattle.mmap_rules.specs.Space.{page_size}
use Rattle.mmap_rules.specs.Owners.{IsShaped, IsTable, distance}
use Rattle.region_watch.specs.Private.{only, physical}
use Rattle.flat_loader.specs.Alone.{OwnMemory, own_of, can_cut, most_pages}

-- its ranges, and all of memory
pub record LoneBytes : Type 0 where
  pub ranges : List Range
  pub mem : List ℕ

-- what the program has of it
abbrev pub own_memory : LoneBytes → OwnMemory
own_memory b = record { ranges = b.ranges; bytes = only (own_of b.ranges) (physical b.mem) }

-- its pages, held as a run: the laws of a table of own bytes speak of mappings
abbrev pub mapping_of : Range → Mapping
mapping_of r = record {
  first = distance r / page_size;
  pages = (distance r + r.size) / page_size - distance r / page_size;
  range = r;
  source = Own;
}

abbrev pub mappings_of : List Range → List Mapping
mappings_of ranges = map mapping_of ranges

-- it ends where a page ends, and begins where one begins unless it is the block's
pub record IsOwnRange (r : Range) : Type 0 where
  pub shaped : IsShaped most_pages r
  pub read : r.writes ≡ false → r.from % page_size ≡ 0
  pub anonymous : r.anonymous ≡ true → r.from % page_size ≡ 0

abbrev pub AreOwnRanges : List Range → Type 0
AreOwnRanges ranges = (j : ℕ) (r : Range) → slice_get ranges j ≡ Some r → IsOwnRange r

-- they are the ranges of a table of all pages
pub record AreTabled (ranges : List Range) (table : List PageOwner) : Type 0 where
  pub pages : length table ≡ most_pages
  pub named : IsTable table (mappings_of ranges)
  pub own : AreOwnRanges ranges

-- so many pages from an address on can be cut out of the range at a place
pub record CanCutAt (ranges : List Range) (place addr pages : ℕ) : Type 0 where
  pub begins : addr % page_size ≡ 0
  pub some : 0 < pages
  pub there : place < length ranges
  pub can : (r : Range) → slice_get ranges place ≡ Some r → can_cut addr (page_size * pages) r ≡ true

-- the block, whose header isn't own
pub record IsBlock (r : Range) : Type 0 where
  pub writes : r.writes ≡ true
  pub whole : r.anonymous ≡ false
  pub header : r.from % page_size ≢ 0

-- all of its pages, with a table of what is own; the block at the head
pub record IsLone (ranges : List Range) (table : List PageOwner) (mem : List ℕ) : Type 0 where
  pub block : Range
  pub others : List Range
  pub head : ranges ≡ block ∷ others
  pub is_block : IsBlock block
  pub tabled : AreTabled ranges table
  pub memory : length mem ≡ page_size * most_pages
