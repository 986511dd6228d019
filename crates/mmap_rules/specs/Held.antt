-- What is kept of a private space beside its bytes, and how it changes.
use Rattle.std.specs.Prelude.{ℕ, ◌≡◌, ◌+◌, ◌-◌, ◌*◌, ◌/◌, ◌%◌, ◌==◌, ◌≤◌, true, false, ◌&&◌, nat_le, if◌then◌else◌, List, [], ◌∷◌, count_by, length, Some, slice_get}
use Rattle.std.specs.List.{sum_by}
use Rattle.nommu_regions.specs.declared.region.Region.{Region}
use Rattle.nommu_regions.specs.declared.region.Source.TheVariants.{Own}
use Rattle.nommu_regions.specs.Regions.{IsLive, with_uses, is_copy}
use Rattle.mmap_rules.specs.declared.mapping.Mapping.{Mapping}
use Rattle.mmap_rules.specs.declared.page_owner.PageOwner.{PageOwner}
use Rattle.mmap_rules.specs.Space.{memory_base, page_size}
use Rattle.mmap_rules.specs.Owners.{IsShaped, IsTable}

-- the mappings, oldest first, with the program's block at the head; the break, and the area in which it moves, both ends
-- included; and how many pages memory has
pub record Held : Type 0 where
  pub maps : List Mapping
  pub brk : ℕ
  pub brk_low : ℕ
  pub brk_high : ℕ
  pub pages : ℕ

-- the address of a page
abbrev pub page_address : ℕ → ℕ
page_address page = memory_base + page_size * page

-- the bytes of a block that belong to nobody: the flat file's header stands there
abbrev pub header_len : ℕ
header_len = 64

-- the mapping of a program's block: all of its run but the header is own, and may be written
abbrev pub block_mapping : ℕ → ℕ → Mapping
block_mapping first pages = record {
  first = first;
  pages = pages;
  range = record { from = page_address first + header_len; size = page_size * pages - header_len; writes = true; anonymous = false };
  source = Own;
}

-- the region has just the pages that an image, which ends so many bytes behind the block's first one, and a stack take
abbrev pub FitsBlock : Region → ℕ → ℕ → Type 0
FitsBlock r end stack = (header_len ≤ end) × (r.pages ≡ (end + stack + (page_size - 1)) / page_size)

-- a space with the block alone: the break begins behind the image and may go on to the stack
abbrev pub held_block : ℕ → Region → ℕ → ℕ → Held
held_block pages r end stack = record {
  maps = block_mapping r.first r.pages ∷ [];
  brk = page_address r.first + end;
  brk_low = page_address r.first + end;
  brk_high = page_address (r.first + r.pages) - stack;
  pages = pages;
}

-- the break after it was asked to go somewhere
abbrev pub next_brk : Held → ℕ → ℕ
next_brk h to = if nat_le h.brk_low to && nat_le to h.brk_high then to else h.brk

-- a mapping's own range lies in its run and ends where a page ends. Only a run of its own can be written; of a copy whole pages are
-- own; and an anonymous mapping owns all of its run
pub record IsMapping (pages : ℕ) (m : Mapping) : Type 0 where
  pub shaped : IsShaped pages m.range
  pub from : page_address m.first ≤ m.range.from
  pub to : m.range.from + m.range.size ≤ page_address (m.first + m.pages)
  pub writes : m.range.writes ≡ true → m.source ≡ Own
  pub copied : is_copy m.source ≡ true → m.range.from % page_size ≡ 0
  pub whole : m.range.anonymous ≡ true → (m.source ≡ Own) × (m.range.from ≡ page_address m.first) × (m.range.size ≡ page_size * m.pages)

abbrev pub AreMappings : ℕ → List Mapping → Type 0
AreMappings pages maps = (j : ℕ) (m : Mapping) → slice_get maps j ≡ Some m → IsMapping pages m

-- the places in the list that a mapping may need: an anonymous one can be cut down to single pages
abbrev pub places_of : Mapping → ℕ
places_of m = if m.range.anonymous then m.pages else 1

-- a space's table is that of its mappings, each is one, and the list has the places that they may need
pub record IsKept (owners : List PageOwner) (maps : List Mapping) (room : ℕ) : Type 0 where
  pub table : IsTable owners maps
  pub mappings : AreMappings (length owners) maps
  pub places : sum_by places_of maps ≤ room

-- a region's run names it: each mapping of the list can give up one use, one after the other
abbrev pub CanRelease : List Region → List Mapping → Type 0
CanRelease rs [] = Unit {0}
CanRelease rs (m ∷ ms) = IsLive rs m.first × CanRelease (with_uses rs m.first (λ uses. uses - 1)) ms

-- the regions after each mapping of the list gave up one use
abbrev pub released : List Region → List Mapping → List Region
released rs [] = rs
released rs (m ∷ ms) = released (with_uses rs m.first (λ uses. uses - 1)) ms

-- each region has as many uses less as mappings of the list name it, and is else as before
abbrev pub LoseUses : List Region → List Mapping → List Region → Type 0
LoseUses old maps new =
    (first : ℕ) (r : Region) → slice_get old first ≡ Some r → slice_get new first ≡ Some (record r { uses = r.uses - count_by (λ m. m.first == first) maps })
