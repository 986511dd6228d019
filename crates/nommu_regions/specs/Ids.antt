-- The ids of regions. An id lasts as long as its region does, also where the region loses its first pages.
use Rattle.std.specs.Prelude.{ℕ, ◌≡◌, ◌≢◌, ◌+◌, ◌*◌, ◌<◌, Bool, true, false, ◌&&◌, not, nat_lt, if◌then◌else◌, List, length, get_or, replicate, slice_get, slice_set, Option, Some, IfSome, MatchOption}
use Rattle.std.specs.List.{swap}
use Rattle.byte_words.specs.Patches.{laid}
use Rattle.page_runs.specs.Free.{without}
use Rattle.nommu_regions.specs.declared.region.Region.{Region}
use Rattle.nommu_regions.specs.declared.region.Source.{Source}
use Rattle.nommu_regions.specs.Regions.{AreFree, IsLive, before, behind, free_of, is_left}

-- the regions, each at its first page, and for each id the page at which its region begins
pub record Numbered : Type 0 where
  pub regions : List Region
  pub starts : List ℕ

-- the page at which the region of an id begins. A number that is no id leads behind memory
abbrev pub start_of : Numbered → ℕ → ℕ
start_of s id = get_or s.starts id (length s.regions)

abbrev pub region_of : Numbered → ℕ → Option Region
region_of s id = slice_get s.regions (start_of s id)

-- the id has a region with a use
abbrev pub Lives : Numbered → ℕ → Type 0
Lives s id = IsLive s.regions (start_of s id)

-- there are as many ids as pages, and at each page one of them begins
pub record AreIds (s : Numbered) : Type 0 where
  pub len : length s.starts ≡ length s.regions
  pub inside : (id : ℕ) → id < length s.starts → start_of s id < length s.regions
  pub one : (i j : ℕ) → i < length s.starts → j < length s.starts → start_of s i ≡ start_of s j → i ≡ j

-- the live region of every other id stays as it is, and keeps its id
abbrev pub OthersRemain : ℕ → (old new : Numbered) → Type 0
OthersRemain id old new = (other : ℕ) → other ≢ id → Lives old other → region_of new other ≡ region_of old other

-- ---- a region more

-- pages with one use
abbrev pub new_region : (first pages : ℕ) → Source → Region
new_region first pages source = record { first = first; pages = pages; source = source; uses = 1 }

-- a new region came to the page of an id, where its pages were free, and its bytes were cleared
pub record IsFresh (id pages : ℕ) (source : Source) (old new : Numbered) (mem_old mem_new : List ℕ) : Type 0 where
  pub free : AreFree old.regions (start_of old id) pages
  pub front : free_of new.regions ≡ without (free_of old.regions) (start_of old id) pages
  pub regions : new ≡ record old { regions = slice_set old.regions (start_of old id) (new_region (start_of old id) pages source) }
  pub region : region_of new id ≡ Some (new_region (start_of old id) pages source)
  pub live : Lives new id
  pub others : OthersRemain id old new
  pub memory : mem_new ≡ laid mem_old (4096 * start_of old id) (replicate (4096 * pages) 0)

-- ---- pages that are cut out of a region

-- pages are left before the cut and behind it
abbrev pub has_both : Region → (from count : ℕ) → Bool
has_both r from count = nat_lt r.first from && is_left r (from + count)

-- what keeps the id: the lower part, or the upper one where no lower part is left
abbrev pub kept_part : Region → (from count : ℕ) → Region
kept_part r from count = if nat_lt r.first from then before r from else behind r (from + count)

-- an id for the upper part, just where both parts are left
abbrev pub UpperPart : Numbered → Region → (from count : ℕ) → Option ℕ → Type 0
UpperPart s r from count upper =
    MatchOption upper (has_both r from count ≡ false) (λ id. (has_both r from count ≡ true) × (region_of s id ≡ Some (behind r (from + count))))

-- pages are left behind the cut alone
abbrev pub has_upper : Region → (from count : ℕ) → Bool
has_upper r from count = not (nat_lt r.first from) && is_left r (from + count)

-- where the upper part alone is left, the region's id and that of the first page that is left change places; else each id stays at
-- its page
pub record IdsBehind (old new : Numbered) (r : Region) (id from count : ℕ) : Type 0 where
  pub stay : has_upper r from count ≡ false → new.starts ≡ old.starts
  pub change : (other : ℕ) → has_upper r from count ≡ true → start_of old other ≡ from + count → new.starts ≡ swap old.starts id other

-- the region's id leads to its part, for which it may have changed places with another id
pub record KeepsPart (old new : Numbered) (id from count : ℕ) : Type 0 where
  pub part : (r : Region) → region_of old id ≡ Some r → region_of new id ≡ Some (kept_part r from count)
  pub live : Lives new id
  pub ids : (r : Region) → region_of old id ≡ Some r → IdsBehind old new r id from count

-- the id that is given for the upper part is the one of its first page
pub record GivesUpper (old new : Numbered) (id from count : ℕ) (upper : Option ℕ) : Type 0 where
  pub part : (r : Region) → region_of old id ≡ Some r → UpperPart new r from count upper
  pub start : IfSome upper (λ up. start_of old up ≡ from + count)
  pub live : IfSome upper (λ up. Lives new up)

-- ---- for the private table: which id begins at a page

-- each list says where the other one has a number
pub record AreInverse (ids starts : List ℕ) (count : ℕ) : Type 0 where
  pub ids_len : length ids ≡ count
  pub starts_len : length starts ≡ count
  pub id : (page : ℕ) → page < count → get_or ids page count < count
  pub start : (id : ℕ) → id < count → get_or starts id count < count
  pub back : (page : ℕ) → page < count → get_or starts (get_or ids page count) count ≡ page
  pub forth : (id : ℕ) → id < count → get_or ids (get_or starts id count) count ≡ id
