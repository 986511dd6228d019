-- The own bytes of a table are those of the mappings whose table it is.
use Rattle.std.proofs.Common.{◌≡◌, ℕ, ◌+◌, ◌-◌, ◌*◌, ◌/◌, ◌%◌, ◌^◌, ◌<◌, ◌≤◌, Bool, true, false, ◌&&◌, List, length, get_or, refl, sym, ◌∙◌, arith}
use Rattle.std.specs.Prelude.{Option, Some, None, slice_get, nat_le}
use Rattle.std.specs.List.{list_any}
use Rattle.std.proofs.lemmas.Bool.{false≢true, and_parts, and_from, le-leb, leb-true}
use Rattle.std.proofs.lemmas.Bool.Decides.{nat_tests}
use Rattle.std.proofs.lemmas.Option.{slice_get-get_or}
use Rattle.mmap_rules.specs.declared.mapping.Range.{Range}
use Rattle.mmap_rules.specs.declared.mapping.Mapping.{Mapping}
use Rattle.mmap_rules.specs.declared.page_owner.PageOwner.{PageOwner}
use Rattle.mmap_rules.specs.Space.{in_range, own_in, writable_in}
use Rattle.mmap_rules.specs.Owners.{IsShaped, IsTable, distance, meets, free_page, owns_in, owns_at, owns}
use Rattle.mmap_rules.specs.Held.{AreMappings}
use Rattle.mmap_rules.proofs.Lists.{found_any, any_found, found_counted, counted_found}

-- the address is in the range, and may be written where that is asked
abbrev passes : Bool → ℕ → Mapping → Bool
passes false a m = in_range m.range a
passes true a m = m.range.writes && in_range m.range a

-- the page of an address, and its place there
abbrev page_of : ℕ → ℕ
page_of a = (a - 2 ^ 31) / 4096

abbrev place_of : ℕ → ℕ
place_of a = (a - 2 ^ 31) % 4096

-- ---- from the table to a mapping

-- an entry that owns a byte
record Owned (o : PageOwner) (write : Bool) (at : ℕ) : Type 0 where
  used : 0 < o.uses
  from : o.from ≤ at
  writes : write ≡ true → o.write ≡ true

owned : (o : PageOwner) (write : Bool) (at : ℕ) → owns_in (Some o) write at ≡ true → Owned o write at
owned o write at own = record {
  used = grind (arith, nat_tests);
  from = grind (arith, nat_tests);
  writes = λ asked. grind (arith, nat_tests);
}

record Entered (table : List PageOwner) (write : Bool) (a : ℕ) : Type 0 where
  above : 2 ^ 31 ≤ a
  entry : PageOwner
  there : slice_get table (page_of a) ≡ Some entry
  owned : Owned entry write (place_of a)

entered : (table : List PageOwner) (write : Bool) (a : ℕ) → owns table write a ≡ true → Entered table write a
unfolding owns owns_at
entered table write a own = at (slice_get table (page_of a)) refl (and_parts (nat_le (2 ^ 31) a) (owns_in (slice_get table (page_of a)) write (place_of a)) own)
  where
    at : (e : Option PageOwner) → slice_get table (page_of a) ≡ e → (nat_le (2 ^ 31) a ≡ true) × (owns_in (slice_get table (page_of a)) write (place_of a) ≡ true) → Entered table write a
    at None is parts = absurd (false≢true (rw is at parts.1))
    at (Some o) is parts = record { above = leb-true (2 ^ 31) a parts.0; entry = o; there = is; owned = owned o write (place_of a) (rw is at parts.1) }

passes_from : (write : Bool) (a : ℕ) (m : Mapping) → in_range m.range a ≡ true → (write ≡ true → m.range.writes ≡ true) → passes write a m ≡ true
passes_from false a m inside writes = inside
passes_from true a m inside writes = and_from m.range.writes (in_range m.range a) (writes refl) inside

inside_range : (r : Range) (a from : ℕ) → 2 ^ 31 ≤ a → (distance r + r.size) % 4096 ≡ 0 → 2 ^ 31 ≤ r.from → meets r (page_of a) ≡ true
    → from ≡ distance r - 4096 * page_of a → from ≤ place_of a → in_range r a ≡ true
inside_range r a from above whole base meet is low = grind (arith, nat_tests)

to_mapping : (pages : ℕ) (table : List PageOwner) (maps : List Mapping) → IsTable table maps → AreMappings pages maps
    → (write : Bool) (a : ℕ) → owns table write a ≡ true → list_any (passes write a) maps ≡ true
to_mapping pages table maps is are write a own =
    let e = entered table write a own in
    let used = e.owned.used in
    let counts = is.counts (page_of a) e.entry e.there in
    let f = found_counted (λ (m : Mapping). meets m.range (page_of a)) maps (omega (arith, used, counts)) in
    let says = is.says (page_of a) f.at e.entry f.item e.there f.there f.passes in
    let shaped = (are f.at f.item f.there).shaped in
    let inside = inside_range f.item.range a e.entry.from e.above shaped.whole shaped.above f.passes says.0 e.owned.from in
    any_found (passes write a) maps f.at f.item f.there (passes_from write a f.item inside (λ asked. sym says.1 ∙ e.owned.writes asked))

-- ---- from a mapping to the table

passes_parts : (write : Bool) (a : ℕ) (m : Mapping) → passes write a m ≡ true → (in_range m.range a ≡ true) × (write ≡ true → m.range.writes ≡ true)
passes_parts false a m is = (is, λ asked. absurd (false≢true asked))
passes_parts true a m is = let parts = and_parts m.range.writes (in_range m.range a) is in (parts.1, λ asked. parts.0)

owned_from : (o : PageOwner) (write : Bool) (at : ℕ) → 0 < o.uses → o.from ≤ at → (write ≡ true → o.write ≡ true) → owns_in (Some o) write at ≡ true
owned_from o false at used from writes = grind (arith, nat_tests)
owned_from o true at used from writes = let asked = writes refl in grind (arith, nat_tests)

from_range : (pages : ℕ) (r : Range) (a : ℕ) → IsShaped pages r → in_range r a ≡ true
    → (2 ^ 31 ≤ a) × (page_of a < pages) × (meets r (page_of a) ≡ true) × (distance r - 4096 * page_of a ≤ place_of a)
from_range pages r a shaped inside =
    let some = shaped.some in
    let base = shaped.above in
    let within = shaped.inside in
    (grind (arith, nat_tests), grind (arith, nat_tests), grind (arith, nat_tests), grind (arith, nat_tests))

to_table : (pages : ℕ) (table : List PageOwner) (maps : List Mapping) → IsTable table maps → AreMappings pages maps → length table ≡ pages
    → (write : Bool) (a : ℕ) → list_any (passes write a) maps ≡ true → owns table write a ≡ true
unfolding owns owns_at
to_table pages table maps is are len write a any =
    let f = found_any (passes write a) maps any in
    let parts = passes_parts write a f.item f.passes in
    let at = from_range pages f.item.range a (are f.at f.item f.there).shaped parts.0 in
    let o : PageOwner = get_or table (page_of a) free_page in
    let there : slice_get table (page_of a) ≡ Some o = slice_get-get_or table (page_of a) free_page (omega (arith, at.1, len)) in
    let counts = is.counts (page_of a) o there in
    let some = counted_found (λ (m : Mapping). meets m.range (page_of a)) maps f.at f.item f.there at.2 in
    let says = is.says (page_of a) f.at o f.item there f.there at.2 in
    let own = owned_from o write (place_of a) (omega (arith, counts, some)) (omega (arith, says.0, at.3)) (λ asked. says.1 ∙ parts.1 asked) in
    rw there (and_from (nat_le (2 ^ 31) a) (owns_in (Some o) write (place_of a)) (le-leb (2 ^ 31) a at.0) own)

-- ---- both

same_test : (x y : Bool) → (x ≡ true → y ≡ true) → (y ≡ true → x ≡ true) → x ≡ y
same_test true y there back = sym (there refl)
same_test false true there back = back refl
same_test false false there back = refl

pub table_owns : (pages : ℕ) (table : List PageOwner) (maps : List Mapping) → IsTable table maps → AreMappings pages maps → length table ≡ pages
    → owns table false ≡ own_in maps
unfolding own_in
table_owns pages table maps is are len = λ i a. at a i
  where
    at : (a : ℕ) → owns table false a ≡ list_any (passes false a) maps
    at a = same_test (owns table false a) (list_any (passes false a) maps) (to_mapping pages table maps is are false a) (to_table pages table maps is are len false a)

pub table_writable : (pages : ℕ) (table : List PageOwner) (maps : List Mapping) → IsTable table maps → AreMappings pages maps → length table ≡ pages
    → owns table true ≡ writable_in maps
unfolding writable_in
table_writable pages table maps is are len = λ i a. at a i
  where
    at : (a : ℕ) → owns table true a ≡ list_any (passes true a) maps
    at a = same_test (owns table true a) (list_any (passes true a) maps) (to_mapping pages table maps is are true a) (to_table pages table maps is are len true a)
