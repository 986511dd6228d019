-- The table of a space's own bytes: an entry for each page of memory.
use Rattle.std.specs.Prelude.{ℕ, zero, suc, ◌≡◌, ◌+◌, ◌-◌, ◌*◌, ◌/◌, ◌%◌, ◌==◌, ◌<◌, ◌≤◌, Bool, false, not, ◌&&◌, ◌||◌, nat_le, nat_lt, min, max, if◌then◌else◌, true, List, count_by, Option, Some, None, slice_get}
use Rattle.std.specs.Coded.{Coded, code_by, coded×, coded_ℕ, coded_bool, coded_list}
use Rattle.std.proofs.Common.{refl}
use Rattle.mmap_rules.specs.declared.mapping.Range.{Range}
use Rattle.mmap_rules.specs.declared.mapping.Mapping.{Mapping}
use Rattle.mmap_rules.specs.declared.page_owner.PageOwner.{PageOwner}
use Rattle.mmap_rules.specs.Space.{memory_base, page_size}

abbrev pub coded_owner : Coded PageOwner
coded_owner = code_by (ℕ × (Bool × ℕ)) (coded× coded_ℕ (coded× coded_bool coded_ℕ)) (λ o. (o.from, (o.write, o.uses))) (λ p. record { from = p.0; write = p.1.0; uses = p.1.1 }) (λ _. refl)

abbrev pub coded_table : Coded (List PageOwner)
coded_table = coded_list coded_owner

-- nothing of a page is own
abbrev pub free_page : PageOwner
free_page = record { from = 0; write = false; uses = 0 }

-- byte `at` of a page with this entry is own, and may be written where that is asked
abbrev pub owns_in : Option PageOwner → Bool → ℕ → Bool
owns_in None write at = false
owns_in (Some o) write at = nat_lt 0 o.uses && nat_le o.from at && (o.write || not write)

-- the byte at a distance from the first of memory
unfoldable pub owns_at : List PageOwner → Bool → ℕ → Bool
owns_at table write at = owns_in (slice_get table (at / page_size)) write (at % page_size)

-- the byte at an address
unfoldable pub owns : List PageOwner → Bool → ℕ → Bool
owns table write a = nat_le memory_base a && owns_at table write (a - memory_base)

-- how many pages a range touches
abbrev pub touched : ℕ → ℕ → ℕ
touched a zero = 0
touched a (suc len) = (a % page_size + len) / page_size + 1

-- ---- a range more

-- how far from the first byte of memory a range begins
abbrev pub distance : Range → ℕ
distance r = r.from - memory_base

-- a range that has bytes, lies in so many pages of memory, and ends where a page ends
pub record IsShaped (pages : ℕ) (r : Range) : Type 0 where
  pub some : 0 < r.size
  pub above : memory_base ≤ r.from
  pub inside : distance r + r.size ≤ page_size * pages
  pub whole : (distance r + r.size) % page_size ≡ 0

-- the range has a byte in the page
abbrev pub meets : Range → ℕ → Bool
meets r page = nat_lt (max (distance r) (page_size * page)) (min (distance r + r.size) (page_size * (page + 1)))

-- the entry of a page with one range more: the first that meets it says which bytes are own, and where two meet one page
-- they agree
unfoldable pub entered : Range → ℕ → PageOwner → PageOwner
entered r page o =
    if not (meets r page) then o
    else if o.uses == 0 then record { from = distance r - page_size * page; write = r.writes; uses = 1 }
    else record { from = o.from; write = o.write; uses = o.uses + 1 }

-- ---- a range less

-- the entry of a page with one range less: the last one that meets it leaves nothing of the page own
unfoldable pub taken_out : Range → ℕ → PageOwner → PageOwner
taken_out r page o =
    if not (meets r page) then o
    else if nat_le o.uses 1 then free_page
    else record o { uses = o.uses - 1 }

-- ---- the table of a list of mappings

-- the entry says which bytes of the page are the range's own
abbrev pub Says : PageOwner → ℕ → Range → Type 0
Says o page r = (o.from ≡ distance r - page_size * page) × (o.write ≡ r.writes)

-- an entry counts the mappings whose own ranges meet its page, and says of each of them which bytes are own. Where there are none
-- nothing is
pub record IsTable (table : List PageOwner) (maps : List Mapping) : Type 0 where
  pub counts : (page : ℕ) (o : PageOwner) → slice_get table page ≡ Some o → o.uses ≡ count_by (λ m. meets m.range page) maps
  pub says : (page j : ℕ) (o : PageOwner) (m : Mapping) → slice_get table page ≡ Some o → slice_get maps j ≡ Some m → meets m.range page ≡ true → Says o page m.range
  pub none : (page : ℕ) (o : PageOwner) → slice_get table page ≡ Some o → o.uses ≡ 0 → o ≡ free_page
