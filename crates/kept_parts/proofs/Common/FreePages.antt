-- The free pages of the world are those of the regions: a live space's mappings hold just the pages of live regions.
use Rattle.std.proofs.Common.{◌≡◌, ℕ, suc, ◌+◌, ◌<◌, Bool, true, false, not, List, [], ◌∷◌, length, arith, refl, sym, ap, ◌∙◌, inl, inr}
use Rattle.std.specs.Prelude.{Option, Some, None, slice_get, ◌||◌}
use Rattle.std.specs.List.{list_any}
use Rattle.std.proofs.lemmas.Bool.Decides.{nat_tests}
use Rattle.std.proofs.lemmas.List.Folds.{list_any-append}
use Rattle.page_runs.specs.Free.{free_runs}
use Rattle.nommu_regions.specs.declared.region.Region.{Region}
use Rattle.nommu_regions.specs.Regions.{holds, is_held, free_of}
use Rattle.nommu_regions.proofs.Held.{held_by}
use Rattle.mmap_rules.specs.declared.mapping.Mapping.{Mapping}
use Rattle.mmap_rules.specs.Space.{has_page}
use Rattle.mmap_rules.specs.Held.{Held}
use Rattle.machine_world.specs.World.{LiveSpace}
use Rattle.machine_world.specs.Free.{free, free_runs_in, is_held as is_held_in}
use Rattle.kept_parts.specs.Kept.{Kept}
use Rattle.kept_parts.specs.Regular.{Regular}
use Rattle.kept_parts.specs.Stands.{About, live_at, live_from, live_spaces, world_of}
use Rattle.call_bytes.proofs.Places.{decide, same_item, Passing, any_at, at_any}
use Rattle.kept_parts.proofs.Common.UseCounts.{used_by, named_by}
use Rattle.kept_parts.proofs.Common.SpacesApart.{has_held}

-- ---- a page that a live space holds

-- a mapping of the space holds the page
abbrev space_holds : ℕ → Option Held → Bool
space_holds page None = false
space_holds page (Some h) = list_any (has_page page) h.maps

swapped : (a b c : Bool) → a ≡ c → (a || (b || false)) ≡ (b || c)
swapped true true c same = refl
swapped true false c same = same
swapped false true c same = refl
swapped false false c same = same

none_beside : (a c : Bool) → a ≡ c → (a || false) ≡ c
none_beside true c same = same
none_beside false c same = same

held_from : (mem : List ℕ) (i : ℕ) (spaces : List (Option Held)) (page : ℕ) → is_held_in (live_from mem i spaces) page ≡ list_any (space_holds page) spaces
held_from mem i [] page = refl
held_from mem i (None ∷ spaces) page =
    list_any-append (λ (s : LiveSpace). list_any (has_page page) s.space.maps) (live_from mem (i + 1) spaces) []
    ∙ none_beside (is_held_in (live_from mem (i + 1) spaces) page) (list_any (space_holds page) spaces) (held_from mem (i + 1) spaces page)
held_from mem i (Some h ∷ spaces) page =
    list_any-append (λ (s : LiveSpace). list_any (has_page page) s.space.maps) (live_from mem (i + 1) spaces) (live_at mem i (Some h))
    ∙ swapped (is_held_in (live_from mem (i + 1) spaces) page) (list_any (has_page page) h.maps) (list_any (space_holds page) spaces)
    (held_from mem (i + 1) spaces page)

-- ---- a page that a live region holds

record Holding (rs : List Region) (page : ℕ) : Type 0 where
  id : ℕ
  region : Region
  there : slice_get rs id ≡ Some region
  has : holds region page ≡ true

holder : (rs : List Region) (page : ℕ) → is_held rs page ≡ true → Holding rs page
holder [] page held = absurd cc
holder (r ∷ rs) page held = elim (decide (holds r page)) [
  | inl here ↦ record { id = 0; region = r; there = refl; has = here }
  | inr other ↦
      let later = holder rs page (ap (λ (b : Bool). b || is_held rs page) (sym other) ∙ held) in
      record { id = suc later.id; region = later.region; there = later.there; has = later.has }
]

-- ---- both are the same

same_tests : (x y : Bool) → (x ≡ true → y ≡ true) → (y ≡ true → x ≡ true) → x ≡ y
same_tests true y to from = sym (to refl)
same_tests false true to from = from refl
same_tests false false to from = refl

page_of_region : (r named : Region) (m : Mapping) (page id : ℕ) → named ≡ r → r.first ≡ id → m.first ≡ id → m.pages ≡ named.pages → holds r page ≡ true → has_page page m ≡ true
page_of_region r named m page id same first names run has =
    let pages : m.pages ≡ r.pages = run ∙ ap (λ (q : Region). q.pages) same in grind (arith, nat_tests, has)

module _ (k : Kept) (regular : Regular k) (page : ℕ) where
  region_holds : list_any (space_holds page) k.spaces ≡ true → is_held k.regions page ≡ true
  region_holds held = of_space (any_at (space_holds page) k.spaces held)
    where
      in_space : (i : ℕ) (s : Option Held) → slice_get k.spaces i ≡ Some s → space_holds page s ≡ true → is_held k.regions page ≡ true
      in_space i None is holds = absurd cc
      in_space i (Some h) is holds =
          let m = any_at (has_page page) h.maps holds in
          let names = regular.names i m.place h m.item is m.there in
          held_by k.regions m.item.first names.region page names.there (has_held k regular i m.place h m.item page is m.there names m.passes)

      of_space : Passing (Option Held) (space_holds page) k.spaces → is_held k.regions page ≡ true
      of_space s = in_space s.place s.item s.there s.passes

  space_does : is_held k.regions page ≡ true → list_any (space_holds page) k.spaces ≡ true
  space_does held =
      let r = holder k.regions page held in
      let live : 0 < r.region.uses = let has = r.has in grind (arith, nat_tests) in
      let s = used_by r.id k.spaces (omega (arith, live, regular.uses r.id r.region r.there)) in
      let m = named_by r.id s.held.maps s.some in
      let names = regular.names s.number m.place s.held m.mapping s.there m.there in
      let same : names.region ≡ r.region = same_item k.regions m.mapping.first r.id names.region r.region m.names names.there r.there in
      let first = regular.regions.begins r.id r.region r.there live in
      let has = page_of_region r.region names.region m.mapping page r.id same first m.names names.run r.has in
      at_any (space_holds page) k.spaces s.number (Some s.held) s.there (at_any (has_page page) s.held.maps m.place m.mapping m.there has)

  pub same_held : is_held_in (live_from k.mem 0 k.spaces) page ≡ is_held k.regions page
  same_held =
      held_from k.mem 0 k.spaces page ∙ same_tests (list_any (space_holds page) k.spaces) (is_held k.regions page) region_holds space_does

pub free_is : (a : About) (k : Kept) → Regular k → free (world_of a k) ≡ (free_of k.regions).runs
unfolding free_runs_in world_of live_spaces
free_is a k regular = λ i. free_runs (length k.regions) (λ page. not (same_held k regular page i))
