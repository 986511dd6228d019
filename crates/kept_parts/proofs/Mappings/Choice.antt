-- Which pages an mmap2 gets: the lowest copy among the mappings of the world is the first copy among the regions.
use Rattle.std.proofs.Common.{◌≡◌, ℕ, ◌<◌, ◌≤◌, inl, inr, Bool, true, List, length, arith, sym, ap, ◌∙◌}
use Rattle.std.specs.Prelude.{Option, Some, None, slice_get, option_map, nat_lt, ◌&&◌}
use Rattle.std.proofs.lemmas.Bool.{cases_lt, false≢true}
use Rattle.std.proofs.lemmas.Bool.Decides.{nat_tests}
use Rattle.std.proofs.lemmas.Option.{get_or_from_slice_get}
use Rattle.std.proofs.lemmas.List.Quantifiers.{position-Some}
use Rattle.page_runs.specs.declared.run.Run.{Run}
use Rattle.page_runs.specs.Place.{place, first_of}
use Rattle.nommu_regions.specs.declared.region.Region.{Region}
use Rattle.nommu_regions.specs.declared.region.Source.{Source}
use Rattle.nommu_regions.specs.Regions.{copy_covers, covers, copy_of, free_of}
use Rattle.mmap_rules.specs.declared.mapping.Mapping.{Mapping}
use Rattle.mmap_rules.specs.declared.want.Want.{Want}
use Rattle.mmap_rules.proofs.Hits.{none_passes}
use Rattle.mmap_rules.specs.Copies.{pages_of}
use Rattle.machine_world.specs.Free.{free_runs_in}
use Rattle.machine_world.specs.MapCalls.{all_maps, lowest, has_pages, own_run, in_copy, in_free_run, or_own}
use Rattle.kept_parts.specs.Kept.{Kept}
use Rattle.kept_parts.specs.Regular.{Regular}
use Rattle.kept_parts.specs.Stands.{About, live_from, world_of}
use Rattle.call_bytes.proofs.Places.{same_item}
use Rattle.kept_parts.proofs.Common.UseCounts.{used_by, named_by}
use Rattle.kept_parts.proofs.Common.SpacesApart.{is_used}
use Rattle.kept_parts.proofs.Common.FreePages.{free_is}
use Rattle.kept_parts.proofs.Mappings.LiveMaps.{lowest_case, InSpace, in_all, is_in_space}

-- ---- copies

-- what a mapping has of its region
record Named (regions : List Region) (m : Mapping) : Type 0 where
  region : Region
  there : slice_get regions m.first ≡ Some region
  live : 0 < region.uses
  run : m.pages ≡ region.pages
  source : m.source ≡ region.source

-- a mapping with all of a region
pub record OfRegion (m : Mapping) (r : Region) : Type 0 where
  pub first : m.first ≡ r.first
  pub pages : m.pages ≡ r.pages
  pub source : m.source ≡ r.source

-- the lowest mapping that passes is one of this region
pub record IsLowest (test : Mapping → Bool) (maps : List Mapping) (r : Region) : Type 0 where
  pub mapping : Mapping
  pub is : lowest test maps ≡ Some mapping
  pub same : OfRegion mapping r

module _ (k : Kept) (regular : Regular k) (id change first pages : ℕ) where
  named : (m : Mapping) → InSpace k.spaces m → Named k.regions m
  named m s =
      let names = regular.names s.number s.place s.held m s.home s.there in
      record {
        region = names.region;
        there = names.there;
        live = is_used k regular s.number s.place s.held m names.region s.home s.there names.there;
        run = names.run;
        source = names.source;
      }

  same_test : (m : Mapping) (n : Named k.regions m) → covers id change first pages n.region ≡ has_pages id change first pages m
  same_test m n =
      let live : nat_lt 0 n.region.uses ≡ true = let some = n.live in grind (arith, nat_tests, some) in
      ap (λ (b : Bool). b && copy_covers id change first pages n.region.source n.region.pages) live
      ∙ ap (λ (s : Source). copy_covers id change first pages s n.region.pages) (sym n.source)
      ∙ ap (λ (p : ℕ). copy_covers id change first pages m.source p) (sym n.run)

  passing : (m : Mapping) (n : Named k.regions m) (r : Region) → n.region ≡ r → covers id change first pages r ≡ true →
      has_pages id change first pages m ≡ true
  passing m n r same has = sym (same_test m n) ∙ ap (covers id change first pages) same ∙ has

  pub no_copy : copy_of k.regions id change first pages ≡ None →
      lowest (has_pages id change first pages) (all_maps (live_from k.mem 0 k.spaces)) ≡ None
  unfolding copy_of
  no_copy none = elim (lowest_case (has_pages id change first pages) (all_maps (live_from k.mem 0 k.spaces))) [
    | inl failing ↦ failing.0
    | inr low ↦
        let n = named low.mapping (is_in_space k.mem k.spaces low.place low.mapping low.there) in
        let fails = none_passes (covers id change first pages) k.regions low.mapping.first n.region none n.there in
        absurd (false≢true (sym fails ∙ same_test low.mapping n ∙ low.passes))
  ]

  -- no region below is such a copy
  first_copy : (copy at : ℕ) (r : Region) → copy_of k.regions id change first pages ≡ Some copy → slice_get k.regions at ≡ Some r →
      covers id change first pages r ≡ true → copy ≤ at
  unfolding copy_of
  first_copy copy at r is there has =
      let found = position-Some (covers id change first pages) k.regions copy r is in
      elim (cases_lt at copy) [
        | inl less ↦ absurd (false≢true (sym (found.2 at less) ∙ ap (covers id change first pages) (get_or_from_slice_get k.regions at r r there) ∙ has))
        | inr least ↦ least
      ]

  pub lowest_copy : (copy : ℕ) (r : Region) → copy_of k.regions id change first pages ≡ Some copy → slice_get k.regions copy ≡ Some r →
      covers id change first pages r ≡ true → IsLowest (has_pages id change first pages) (all_maps (live_from k.mem 0 k.spaces)) r
  lowest_copy copy r is there has =
      let live : 0 < r.uses = grind (arith, nat_tests, has) in
      let user = used_by copy k.spaces (omega (arith, live, regular.uses copy r there)) in
      let one = named_by copy user.held.maps user.some in
      let n = named one.mapping (record { number = user.number; held = user.held; home = user.there; place = one.place; there = one.there }) in
      let region : n.region ≡ r = same_item k.regions one.mapping.first copy n.region r one.names n.there there in
      let passes = passing one.mapping n r region has in
      let stands = in_all k.mem 0 k.spaces user.number user.held one.mapping user.there (record { place = one.place; there = one.there }) in
      elim (lowest_case (has_pages id change first pages) (all_maps (live_from k.mem 0 k.spaces))) [
        | inl failing ↦ absurd (false≢true (sym (failing.1 stands.place one.mapping stands.there) ∙ passes))
        | inr low ↦
            let of = named low.mapping (is_in_space k.mem k.spaces low.place low.mapping low.there) in
            let above = first_copy copy low.mapping.first of.region is of.there (same_test low.mapping of ∙ low.passes) in
            let below = low.least stands.place one.mapping stands.there passes in
            let at : low.mapping.first ≡ copy = omega (arith, above, below, one.names) in
            let its : of.region ≡ r = same_item k.regions low.mapping.first copy of.region r at of.there there in
            record {
              mapping = low.mapping;
              is = low.is;
              same = record {
                first = at ∙ sym (regular.regions.begins copy r there live);
                pages = of.run ∙ ap (λ (x : Region). x.pages) its;
                source = of.source ∙ ap (λ (x : Region). x.source) its;
              };
            }
      ]

-- ---- what the world chooses

-- a run of its own
abbrev pub own_choice : About → Kept → Want → Option Mapping
own_choice a k want = in_free_run a.kind (free_runs_in (length k.regions) (world_of a k).spaces) want

abbrev pub chosen : About → Kept → Want → Option Mapping
chosen a k want = or_own (in_copy (world_of a k).spaces want) (own_choice a k want)

-- the first page of the free run that the code takes
abbrev pub free_page : About → Kept → ℕ → Option ℕ
free_page a k count = first_of (free_of k.regions).runs (place a.kind (free_of k.regions).runs count)

-- a run of its own begins there
pub own_is : (a : About) (k : Kept) → Regular k → (want : Want) → own_choice a k want ≡ option_map (own_run want) (free_page a k (pages_of want))
unfolding world_of
own_is a k regular want = ap (λ (runs : List Run). in_free_run a.kind runs want) (free_is a k regular)
