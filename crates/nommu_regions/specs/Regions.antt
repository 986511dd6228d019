-- The regions of a memory, as a list with one place per page. A region stands at the number of its first
-- page. A place whose region has no use is empty.
use Rattle.std.specs.Prelude.{ℕ, ◌≡◌, ◌+◌, ◌-◌, ◌==◌, ◌<◌, ◌≤◌, Bool, true, false, ◌&&◌, ◌||◌, not, nat_le, nat_lt, if◌then◌else◌, List, [], ◌∷◌, length, position, slice_get, slice_set, Option, Some, None}
use Rattle.page_runs.specs.Free.{Free, free_runs, with_free}
use Rattle.page_runs.specs.Pages.{in_run}
use Rattle.nommu_regions.specs.declared.region.Region.{Region}
use Rattle.nommu_regions.specs.declared.region.Source.{Source}
use Rattle.nommu_regions.specs.declared.region.Source.TheVariants.{Own, Copy}

-- the region is live and has page p
abbrev pub holds : Region → ℕ → Bool
holds r p = nat_lt 0 r.uses && in_run r.first r.pages p

-- a live region has page p
abbrev pub is_held : List Region → ℕ → Bool
is_held [] p = false
is_held (r ∷ rs) p = holds r p || is_held rs p

-- a region with a use stands at a page
pub record IsLive (rs : List Region) (first : ℕ) : Type 0 where
  pub region : Region
  pub there : slice_get rs first ≡ Some region
  pub live : 0 < region.uses

-- each live region begins at its place, has a page and lies in memory; no two have a common page
pub record AreRegions (rs : List Region) : Type 0 where
  pub begins : (id : ℕ) (r : Region) → slice_get rs id ≡ Some r → 0 < r.uses → r.first ≡ id
  pub some : (id : ℕ) (r : Region) → slice_get rs id ≡ Some r → 0 < r.uses → 0 < r.pages
  pub inside : (id : ℕ) (r : Region) → slice_get rs id ≡ Some r → 0 < r.uses → r.first + r.pages ≤ length rs
  pub apart : (i j : ℕ) (r s : Region) (p : ℕ) → slice_get rs i ≡ Some r → slice_get rs j ≡ Some s →
      holds r p ≡ true → holds s p ≡ true → i ≡ j

-- the free runs are the maximal runs of the pages that no live region has
abbrev pub free_of : List Region → Free
free_of rs = record { pages = length rs; runs = free_runs (length rs) (λ p. not (is_held rs p)) }

-- for private functions: what is known of the regions and of the free runs beside them
abbrev pub HaveFreeRuns : List Region → Free → Type 0
HaveFreeRuns rs free = AreRegions rs × (free ≡ free_of rs) × (1 ≤ length rs) × (length rs ≤ 16384)

-- none of the `count` pages from `first` on is held, and they lie in memory
pub record AreFree (rs : List Region) (first count : ℕ) : Type 0 where
  pub inside : first + count ≤ length rs
  pub free : (p : ℕ) → in_run first count p ≡ true → is_held rs p ≡ false

-- the regions with the uses of one changed
abbrev pub with_uses_of : List Region → ℕ → (ℕ → ℕ) → Option Region → List Region
with_uses_of rs first change None = rs
with_uses_of rs first change (Some r) = slice_set rs first (record r { uses = change r.uses })

abbrev pub with_uses : List Region → ℕ → (ℕ → ℕ) → List Region
with_uses rs first change = with_uses_of rs first change (slice_get rs first)

-- the uses of the region at a page
abbrev pub uses_in : Option Region → ℕ
uses_in None = 0
uses_in (Some r) = r.uses

abbrev pub uses_of : List Region → ℕ → ℕ
uses_of rs first = uses_in (slice_get rs first)

-- the free runs behind one use less of a region: the last one frees its pages, and any other one none
abbrev pub free_behind : Region → Free → Free
free_behind r free = if r.uses == 1 then with_free free r.first r.pages else free

-- ---- copies of files

abbrev pub is_copy : Source → Bool
is_copy Own = false
is_copy (Copy file change first) = true

-- a copy of so many pages has the pages of a file that are asked for, as the file is at this change count
abbrev pub copy_covers : (file change first pages : ℕ) → Source → (held : ℕ) → Bool
copy_covers file change first pages Own held = false
copy_covers file change first pages (Copy f c from) held =
    f == file && c == change && nat_le from first && nat_le (first + pages) (from + held)

-- a live region is such a copy
abbrev pub covers : (file change first pages : ℕ) → Region → Bool
covers file change first pages r = nat_lt 0 r.uses && copy_covers file change first pages r.source r.pages

-- the lowest live copy that covers the pages
unfoldable pub copy_of : List Region → (file change first pages : ℕ) → Option ℕ
copy_of rs file change first pages = position (covers file change first pages) rs

-- ---- pages that are cut out of a region

-- pages of a region of one use, and not all of its pages. A copy of a file is never cut: what is left behind the cut would begin at
-- another page of the file
pub record CanCut (rs : List Region) (first from count : ℕ) : Type 0 where
  pub region : Region
  pub there : slice_get rs first ≡ Some region
  pub own : region.source ≡ Own
  pub one : region.uses ≡ 1
  pub inside : (region.first ≤ from) × (from + count ≤ region.first + region.pages)
  pub some : 0 < count
  pub less : count < region.pages

-- what is left of a region before a page; without a page it has no use
abbrev pub before : Region → ℕ → Region
before r from = record r { pages = from - r.first; uses = if from == r.first then 0 else r.uses }

-- what is left of it from a page on
abbrev pub behind : Region → ℕ → Region
behind r from = record r { first = from; pages = r.first + r.pages - from }

-- a page of it is left from a page on
abbrev pub is_left : Region → ℕ → Bool
is_left r from = nat_lt from (r.first + r.pages)

-- what is left behind the cut comes to the place of its first page
abbrev pub with_behind : List Region → Region → ℕ → List Region
with_behind rs r from = if is_left r from then slice_set rs from (behind r from) else rs

abbrev pub cut_out : List Region → ℕ → Option Region → (from count : ℕ) → List Region
cut_out rs first None from count = rs
cut_out rs first (Some r) from count = with_behind (slice_set rs first (before r from)) r (from + count)

-- the regions after pages were cut out of the one that begins at a page: what is left before them and what is left behind them are
-- two regions, each at its first page
unfoldable pub with_cut : List Region → (first from count : ℕ) → List Region
with_cut rs first from count = cut_out rs first (slice_get rs first) from count
