-- Entries of the table of own bytes, what is kept of a space, and copies of files among regions.
use Rattle.std.proofs.Common.{◌≡◌, ℕ, Bool, true, false, List, [], ◌∷◌, map, Some, None, refl}
use Rattle.nommu_regions.specs.declared.region.Region.{Region}
use Rattle.nommu_regions.specs.declared.region.Source.{Source}
use Rattle.nommu_regions.specs.declared.region.Source.TheVariants.{Own, Copy}
use Rattle.nommu_regions.specs.Regions.{copy_of}
use Rattle.mmap_rules.specs.declared.mapping.Range.{Range}
use Rattle.mmap_rules.specs.declared.mapping.Mapping.{Mapping}
use Rattle.mmap_rules.specs.declared.page_owner.PageOwner.{PageOwner}
use Rattle.mmap_rules.specs.Owners.{free_page, touched, entered, taken_out}
use Rattle.mmap_rules.specs.Held.{Held, block_mapping, held_block, next_brk, released}

-- ---- two pages from byte 64 on, which may be written

abbrev range : Range
range = record { from = 0x8000_0040; size = 0x1fc0; writes = true; anonymous = false }

abbrev owner : (from : ℕ) → (write : Bool) → (uses : ℕ) → PageOwner
owner from write uses = record { from = from; write = write; uses = uses }

-- a page that it begins in, one that it ends in, and the next one
notes : map (λ page. entered range page free_page) (0 ∷ 1 ∷ 2 ∷ []) ≡ owner 64 true 1 ∷ owner 0 true 1 ∷ free_page ∷ []
unfolding entered
notes = refl

-- where another one was noted before that says which bytes are own, and the count rises; elsewhere nothing changes
notes-second : map (λ page. entered range page (owner 32 false 1)) (0 ∷ 1 ∷ 2 ∷ []) ≡ owner 32 false 2 ∷ owner 32 false 2 ∷ owner 32 false 1 ∷ []
unfolding entered
notes-second = refl

unnotes : map (λ page. taken_out range page (owner 64 true 2)) (0 ∷ 1 ∷ 2 ∷ []) ≡ owner 64 true 1 ∷ owner 64 true 1 ∷ owner 64 true 2 ∷ []
unfolding taken_out
unnotes = refl

-- the last one leaves nothing of the page own
unnotes-last : map (λ page. taken_out range page (owner 64 true 1)) (0 ∷ 1 ∷ 2 ∷ []) ≡ free_page ∷ free_page ∷ owner 64 true 1 ∷ []
unfolding taken_out
unnotes-last = refl

-- no byte touches no page, and two bytes can touch two
touches : (touched 0x8000_0fff 0 ∷ touched 0x8000_0fff 1 ∷ touched 0x8000_0fff 2 ∷ touched 0x8000_0000 0x1000 ∷ []) ≡ 0 ∷ 1 ∷ 2 ∷ 1 ∷ []
touches = refl

-- ---- the block at page 1, of two pages, with an image of 200 bytes and a stack of 4096

abbrev region : (first pages : ℕ) → Source → (uses : ℕ) → Region
region first pages source uses = record { first = first; pages = pages; source = source; uses = uses }

abbrev held : Held
held = held_block 4 (region 1 2 Own 1) 200 4096

holds-block :
    held
    ≡ record {
      maps = record { first = 1; pages = 2; range = record { from = 0x8000_1040; size = 0x1fc0; writes = true; anonymous = false }; source = Own } ∷ [];
      brk = 0x8000_10c8;
      brk_low = 0x8000_10c8;
      brk_high = 0x8000_2000;
      pages = 4;
    }
holds-block = refl

-- both ends of its area, and one byte outside each: there it stays
moves-break :
    map (next_brk (record held { brk = 0x8000_1100 })) (0x8000_10c8 ∷ 0x8000_2000 ∷ 0x8000_10c7 ∷ 0x8000_2001 ∷ 0 ∷ [])
    ≡ 0x8000_10c8 ∷ 0x8000_2000 ∷ 0x8000_1100 ∷ 0x8000_1100 ∷ 0x8000_1100 ∷ []
moves-break = refl

-- ---- uses that mappings give up

abbrev pages : (uses : ℕ) → List Region
pages uses = region 0 0 Own 0 ∷ region 1 2 Own uses ∷ region 2 0 Own 0 ∷ []

abbrev mapping : (first : ℕ) → Mapping
mapping first = block_mapping first 2

releases : (released (pages 3) [] ∷ released (pages 3) (mapping 1 ∷ []) ∷ released (pages 3) (mapping 1 ∷ mapping 1 ∷ mapping 1 ∷ []) ∷ []) ≡ pages 3 ∷ pages 2 ∷ pages 0 ∷ []
releases = refl

-- one behind memory gives up none, and below none there is none
releases-none : (released (pages 3) (mapping 9 ∷ []) ∷ released (pages 0) (mapping 1 ∷ []) ∷ []) ≡ pages 3 ∷ pages 0 ∷ []
releases-none = refl

-- ---- copies: pages 2 to 5 of file 3 at change 7 stand at page 1, and once more at page 5

abbrev copies : (uses : ℕ) → List Region
copies uses =
    region 0 1 Own 1 ∷ region 1 4 (Copy 3 7 2) uses ∷ region 2 0 Own 0 ∷ region 3 0 Own 0 ∷ region 4 0 Own 0 ∷ region 5 4 (Copy 3 7 2) 1 ∷ []

-- all four pages, and the last
finds : (copy_of (copies 1) 3 7 2 4 ∷ copy_of (copies 1) 3 7 5 1 ∷ []) ≡ Some 1 ∷ Some 1 ∷ []
unfolding copy_of
finds = refl

-- only one with a use counts
finds-live : copy_of (copies 0) 3 7 2 4 ≡ Some 5
unfolding copy_of
finds-live = refl

-- a page before them, one behind them, the file after a change, and another file
finds-none : (copy_of (copies 1) 3 7 1 1 ∷ copy_of (copies 1) 3 7 3 4 ∷ copy_of (copies 1) 3 8 2 4 ∷ copy_of (copies 1) 4 7 2 4 ∷ []) ≡ None ∷ None ∷ None ∷ None ∷ []
unfolding copy_of
finds-none = refl
