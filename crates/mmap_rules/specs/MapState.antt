-- What mapping and unmapping change: what is kept of a space, the regions, and the bytes of memory.
use Rattle.std.specs.Prelude.{◌≡◌, ℕ, ◌+◌, ◌-◌, ◌*◌, ◌/◌, ◌^◌, ◌==◌, ◌<◌, ◌≤◌, Bool, true, false, List, [], ◌∷◌, ◌++◌, count_by, length, replicate, Option, Some, None, slice_get, slice_set, Result, Ok, Err, ⊤}
use Rattle.byte_words.specs.Patches.{laid}
use Rattle.page_runs.specs.declared.place.Kind.{Kind}
use Rattle.page_runs.specs.Place.{place, first_of}
use Rattle.nommu_regions.specs.declared.region.Region.{Region}
use Rattle.nommu_regions.specs.declared.region.Source.{Source}
use Rattle.nommu_regions.specs.declared.region.Source.TheVariants.{Own, Copy}
use Rattle.nommu_regions.specs.Regions.{free_of, copy_of, with_uses, with_cut}
use Rattle.nommu_regions.specs.Ids.{Numbered, start_of, OthersRemain}
use Rattle.call_log.specs.declared.errno.Errno.{Errno}
use Rattle.call_log.specs.declared.errno.Errno.TheVariants.{Einval}
use Rattle.mmap_rules.specs.declared.mapping.Mapping.{Mapping}
use Rattle.mmap_rules.specs.declared.want.Want.{Want}
use Rattle.mmap_rules.specs.declared.want.Want.TheVariants.{Anon, File}
use Rattle.mmap_rules.specs.declared.map_fault.MapFault.{MapFault}
use Rattle.mmap_rules.specs.declared.map_fault.MapFault.TheVariants.{Enomem, Memory}
use Rattle.mmap_rules.specs.Space.{page_size}
use Rattle.mmap_rules.specs.Held.{Held, page_address}
use Rattle.mmap_rules.specs.Want.{pages_for}
use Rattle.mmap_rules.specs.Mappings.{run_mapping, part_mapping, copied_from, file_pages, page_at, Hit, hit, without_hit}

pub record MapState : Type 0 where
  pub held : Held
  pub regions : List Region
  pub memory : List ℕ

abbrev pub map_state : Held → List Region → List ℕ → MapState
map_state held regions memory = record { held = held; regions = regions; memory = memory }

-- ---- mmap2

-- the address that is answered, and what is left
pub record Mapped : Type 0 where
  pub addr : ℕ
  pub map_state : MapState

-- a mapping more, the newest
abbrev pub with_mapping : Held → Mapping → Held
with_mapping held m = record held { maps = held.maps ++ m ∷ [] }

-- the pages of a run of its own, with these bytes
abbrev pub in_fresh_run : MapState → Kind → (pages : ℕ) → (writes anonymous : Bool) → Source → List ℕ → Option Mapped
in_fresh_run s kind pages writes anonymous source bytes = at_run (first_of (free_of s.regions).runs (place kind (free_of s.regions).runs pages))
  where
    at_run : Option ℕ → Option Mapped
    at_run None = None
    at_run (Some first) = Some (record {
      addr = page_address first;
      map_state = record {
        held = with_mapping s.held (run_mapping first pages writes anonymous source);
        regions = slice_set s.regions first (record { first = first; pages = pages; source = source; uses = 1 });
        memory = laid s.memory (page_size * first) bytes;
      };
    })

-- pages of a copy that is there, which gets one use more
abbrev pub in_copy : MapState → (first pages : ℕ) → Option Region → Option Mapped
in_copy s first pages None = None
in_copy s first pages (Some r) = Some (record {
  addr = page_address (r.first + (first - copied_from r.source));
  map_state = record {
    held = with_mapping s.held (part_mapping r.first r.pages r.source (first - copied_from r.source) pages);
    regions = with_uses s.regions r.first (λ uses. uses + 1);
    memory = s.memory;
  };
})

-- a file that isn't written: the lowest copy that covers the pages, or a copy that is made
abbrev pub in_copy_or_new : MapState → Kind → List ℕ → (pages first id change : ℕ) → Option ℕ → Option Mapped
in_copy_or_new s kind bytes pages first id change (Some copy) = in_copy s first pages (slice_get s.regions copy)
in_copy_or_new s kind bytes pages first id change None =
    in_fresh_run s kind pages false false (Copy id change first) (file_pages bytes first pages)

-- none where a fresh run is needed and none fits
unfoldable pub mapped : MapState → Kind → (bytes : List ℕ) → Want → Option Mapped
mapped s kind bytes (Anon pages) = in_fresh_run s kind pages true true Own (replicate (page_size * pages) 0)
mapped s kind bytes (File pages first true id change) = in_fresh_run s kind pages true false Own (file_pages bytes first pages)
mapped s kind bytes (File pages first false id change) =
    in_copy_or_new s kind bytes pages first id change (copy_of s.regions id change first pages)

-- the file whose pages are wanted
abbrev pub file_in : Want → ℕ
file_in (Anon pages) = 0
file_in (File pages first write id change) = id

-- what `map` answers; out of memory changes nothing
abbrev pub Maps : Option Mapped → (old new : MapState) → Result ℕ MapFault → Type 0
Maps (Some m) old new (Ok addr) = (addr ≡ m.addr) × (new ≡ m.map_state)
Maps (Some m) old new (Err Enomem) = ⊥
Maps None old new (Ok addr) = ⊥
Maps None old new (Err Enomem) = new ≡ old
Maps wanted old new (Err Memory) = new ≡ old

-- ---- munmap

-- a region that loses a use, or pages
abbrev pub given_back : List Region → Hit → (addr size : ℕ) → List Region
given_back rs h addr size = by_left h.left
  where
    by_left : List Mapping → List Region
    by_left [] = with_uses rs h.mapping.first (λ uses. uses - 1)
    by_left (m ∷ ms) = with_cut rs h.mapping.first (page_at addr) (size / page_size)

-- what is left of a space and of the regions
pub record Freed : Type 0 where
  pub held : Held
  pub regions : List Region

abbrev pub freed : Held → List Region → Freed
freed held regions = record { held = held; regions = regions }

abbrev pub after_hit : Held → List Region → (addr size : ℕ) → Option Hit → Option Freed
after_hit held rs addr size None = None
after_hit held rs addr size (Some h) = Some (record {
  held = record held { maps = without_hit held.maps h };
  regions = given_back rs h addr size;
})

-- none where no mapping is hit
unfoldable pub unmapped : Held → List Region → (addr len : ℕ) → Option Freed
unmapped held rs addr len = after_hit held rs addr (page_size * pages_for len) (hit held.maps addr len)

-- what `unmap` answers
abbrev pub Unmaps : Option Freed → (old new : Freed) → Result ⊤ Errno → Type 0
Unmaps (Some f) old new (Ok done) = new ≡ f
Unmaps (Some f) old new (Err errno) = ⊥
Unmaps None old new (Ok done) = ⊥
Unmaps None old new (Err errno) = (errno ≡ Einval) × (new ≡ old)

-- of the live regions just the one that begins at this page may change: each other one stays as it is, and keeps its id
pub record OthersKeepIds (first : ℕ) (old new : Numbered) : Type 0 where
  pub id : ℕ
  pub start : start_of old id ≡ first
  pub others : OthersRemain id old new

-- ---- what the caller owes: each mapping of the space has its region

pub record Names (rs : List Region) (m : Mapping) : Type 0 where
  pub region : Region
  pub there : slice_get rs m.first ≡ Some region
  pub live : 0 < region.uses
  pub run : m.pages ≡ region.pages
  pub source : m.source ≡ region.source
  pub once : region.source ≡ Own → region.uses ≡ 1

-- and a region has as many uses as the mappings that name it, at least
pub record NameRegions (rs : List Region) (maps : List Mapping) : Type 0 where
  pub each : (j : ℕ) (m : Mapping) → slice_get maps j ≡ Some m → Names rs m
  pub counts : (id : ℕ) (r : Region) → slice_get rs id ≡ Some r → count_by (λ m. m.first == id) maps ≤ r.uses

-- one use more of each can be counted
abbrev pub AreFew : List Region → Type 0
AreFew rs = (id : ℕ) (r : Region) → slice_get rs id ≡ Some r → r.uses + 1 < 2 ^ 32

-- the space lies in a memory of these regions, of each of which one use more can be counted
pub record LiesIn (h : Held) (rs : List Region) : Type 0 where
  pub pages : h.pages ≡ length rs
  pub names : NameRegions rs h.maps
  pub few : AreFew rs

pub record CanMap (h : Held) (rs : List Region) (mem : List ℕ) : Type 0 where
  pub lies : LiesIn h rs
  pub memory : length mem ≡ page_size * length rs

-- no region has more uses than so many
abbrev pub AreAtMost : ℕ → List Region → Type 0
AreAtMost most rs = (id : ℕ) (r : Region) → slice_get rs id ≡ Some r → r.uses ≤ most
