-- What one space may write no other one has.
use Rattle.std.proofs.Common.{◌≡◌, ◌≢◌, ℕ, ◌+◌, ◌-◌, ◌/◌, ◌^◌, ◌<◌, ◌≤◌, Bool, true, false, not, ◌&&◌, List, arith, refl, sym, ◌∙◌}
use Rattle.std.specs.Prelude.{Some, slice_get}
use Rattle.std.proofs.lemmas.Bool.Decides.{nat_tests}
use Rattle.nommu_regions.specs.declared.region.Region.{Region}
use Rattle.nommu_regions.specs.Regions.{holds}
use Rattle.mmap_rules.specs.declared.mapping.Mapping.{Mapping}
use Rattle.mmap_rules.specs.Space.{in_range, own_in, writable_in, has_page}
use Rattle.mmap_rules.specs.Held.{Held}
use Rattle.region_watch.specs.Private.{only, physical}
use Rattle.region_watch.proofs.Maps.{other_stays}
use Rattle.kept_parts.specs.Kept.{Kept}
use Rattle.kept_parts.specs.Regular.{Names, Regular}
use Rattle.kept_parts.specs.Stands.{private_bytes}
use Rattle.call_bytes.proofs.Places.{is_false, any_at}
use Rattle.kept_parts.proofs.Common.UseCounts.{named, counted, counted_both}

-- the page of an address
abbrev pub page_of : ℕ → ℕ
page_of a = (a - 2 ^ 31) / 4096

-- a byte of an own range lies in a page of the mapping's run
pub page_there : (rs : List Region) (m : Mapping) (a : ℕ) → Names rs m → in_range m.range a ≡ true → has_page (page_of a) m ≡ true
page_there rs m a names inside =
    let from = names.from in
    let to = names.to in
    let low : m.range.from ≤ a = grind (arith, nat_tests, inside) in
    let high : a < m.range.from + m.range.size = grind (arith, nat_tests, inside) in
    let first : m.first ≤ page_of a = omega arith in
    let last : page_of a < m.first + m.pages = omega arith in
    grind (arith, nat_tests, first, last)

module _ (k : Kept) (regular : Regular k) where
  -- the region of a mapping of a live space is live
  pub is_used : (i j : ℕ) (h : Held) (m : Mapping) (r : Region) → slice_get k.spaces i ≡ Some (Some h) → slice_get h.maps j ≡ Some m
      → slice_get k.regions m.first ≡ Some r → 0 < r.uses
  is_used i j h m r is there at =
      omega (arith, regular.uses m.first r at, counted m.first k.spaces i h is, named m.first h.maps j m there refl)

  -- and holds the pages of the mapping
  pub has_held : (i j : ℕ) (h : Held) (m : Mapping) (page : ℕ) → slice_get k.spaces i ≡ Some (Some h) → (there : slice_get h.maps j ≡ Some m)
      → (names : Names k.regions m) → has_page page m ≡ true → holds names.region page ≡ true
  has_held i j h m page is there names has =
      let live = is_used i j h m names.region is there names.there in
      let first = regular.regions.begins m.first names.region names.there live in
      let pages = names.run in
      grind (arith, nat_tests, has)

  -- mappings of two live spaces that share a page share a region, which has two uses
  pub shared : (i j : ℕ) (h g : Held) (p q : ℕ) (m n : Mapping) (page : ℕ) → i ≢ j
      → slice_get k.spaces i ≡ Some (Some h) → slice_get k.spaces j ≡ Some (Some g) → slice_get h.maps p ≡ Some m → slice_get g.maps q ≡ Some n
      → has_page page m ≡ true → has_page page n ≡ true → m.range.writes ≡ false
  shared i j h g p q m n page other is it there here has has_too = is_false m.range.writes (λ writes.
      let names = regular.names i p h m is there in
      let names_too = regular.names j q g n it here in
      let same : m.first ≡ n.first = regular.regions.apart m.first n.first names.region names_too.region page names.there names_too.there
      (has_held i p h m page is there names has) (has_held j q g n page it here names_too has_too) in
      let one = regular.one_use m.first names.region names.there (names.own writes) in
      let both = counted_both m.first k.spaces i j h g other is it in
      omega (arith, one, both, regular.uses m.first names.region names.there, named m.first h.maps p m there refl, named m.first g.maps q n here (sym same)))

-- two live spaces never share a byte that one may write
pub apart : (k : Kept) → Regular k → (i j : ℕ) (h g : Held) → slice_get k.spaces i ≡ Some (Some h) → slice_get k.spaces j ≡ Some (Some g) → i ≢ j → (a : ℕ)
    → writable_in h.maps a ≡ true → own_in g.maps a ≡ false
unfolding writable_in own_in
apart k regular i j h g is it other a may = is_false (own_in g.maps a) (λ own.
    let m = any_at (λ (m : Mapping). m.range.writes && in_range m.range a) h.maps may in
    let n = any_at (λ (m : Mapping). in_range m.range a) g.maps own in
    let parts = both m.item.range.writes (in_range m.item.range a) m.passes in
    let never = shared k regular i j h g m.place n.place m.item n.item (page_of a) other is it m.there n.there
    (page_there k.regions m.item a (regular.names i m.place h m.item is m.there) parts.1)
    (page_there k.regions n.item a (regular.names j n.place g n.item it n.there) n.passes) in
    let e = sym parts.0 ∙ never in cc)
  where
    both : (x y : Bool) → (x && y) ≡ true → (x ≡ true) × (y ≡ true)
    both true y h = (refl, h)
    both false y h = absurd (let e : false ≡ true = h in cc)

-- what leaves the bytes that one space may not write leaves all bytes of the others
pub others_keep : (k : Kept) → Regular k → (i : ℕ) (h : Held) → slice_get k.spaces i ≡ Some (Some h) → (now : List ℕ)
    → only (λ a. not (writable_in h.maps a)) (physical now) ≡ only (λ a. not (writable_in h.maps a)) (physical k.mem)
    → (j : ℕ) (o : Held) → j ≢ i → slice_get k.spaces j ≡ Some (Some o) → private_bytes now o ≡ private_bytes k.mem o
unfolding private_bytes
others_keep k regular i h is now same j o other it =
    other_stays (own_in o.maps) (writable_in h.maps) (physical k.mem) (physical now)
    (λ a may. apart k regular i j h o is it (λ e. other (sym e)) a may) same
