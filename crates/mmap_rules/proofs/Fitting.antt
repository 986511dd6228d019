-- What is wanted is mapped where a copy has its pages, or a free run is long enough.
use Rattle.std.proofs.Common.{◌≡◌, ℕ, Bool, true, false, List, refl, sym, ap, subst, ◌∙◌}
use Rattle.std.specs.Prelude.{◌||◌, Option, Some, None, IfSome, is_some, option_map, slice_get}
use Rattle.page_runs.specs.declared.place.Kind.{Kind}
use Rattle.page_runs.specs.declared.run.Run.{Run}
use Rattle.page_runs.specs.Place.{Placed, place, first_of}
use Rattle.page_runs.proofs.Places.{placed}
use Rattle.nommu_regions.specs.declared.region.Region.{Region}
use Rattle.nommu_regions.specs.declared.region.Source.{Source}
use Rattle.nommu_regions.specs.Regions.{free_of, copy_of}
use Rattle.nommu_regions.specs.Ids.{Numbered, Lives, start_of}
use Rattle.mmap_rules.specs.declared.want.Want.{Want}
use Rattle.mmap_rules.specs.declared.want.Want.TheVariants.{Anon, File}
use Rattle.mmap_rules.specs.declared.pages.Part.{Part}
use Rattle.mmap_rules.specs.Chosen.{part_at, part_for, new_run}
use Rattle.mmap_rules.specs.Held.{Held}
use Rattle.mmap_rules.specs.MapState.{MapState, map_state, in_fresh_run, in_copy, in_copy_or_new, mapped}

fresh_is : (s : MapState) (kind : Kind) (pages : ℕ) (writes anonymous : Bool) (source : Source) (bytes : List ℕ) →
    is_some (place kind (free_of s.regions).runs pages) ≡ is_some (in_fresh_run s kind pages writes anonymous source bytes)
fresh_is s kind pages writes anonymous source bytes = at (place kind (free_of s.regions).runs pages) refl
  where
    at : (o : Option ℕ) → place kind (free_of s.regions).runs pages ≡ o →
        is_some (place kind (free_of s.regions).runs pages) ≡ is_some (in_fresh_run s kind pages writes anonymous source bytes)
    at None is = rw is refl
    at (Some i) is =
        let rule = subst (Placed kind (free_of s.regions).runs pages) is (placed kind (free_of s.regions).runs pages) in
        let first : first_of (free_of s.regions).runs (place kind (free_of s.regions).runs pages) ≡ Some rule.run.first =
        ap (first_of (free_of s.regions).runs) is ∙ ap (option_map (λ (r : Run). r.first)) rule.there in
        rw first (ap is_some is)

module _ (n : Numbered) (fits : Bool) (held : Held) (memory bytes : List ℕ) (kind : Kind) where
  abbrev s : MapState
  s = map_state held n.regions memory

  -- a file that isn't written, by the copy that has its pages
  copied : (pages first id change : ℕ) (part : Option Part) (copy : Option ℕ) → copy_of n.regions id change first pages ≡ copy →
      option_map (part_at n) part ≡ option_map (λ c. record { copy = c; first = first; pages = pages }) copy → IfSome part (λ p. Lives n p.copy) →
      is_some (place kind (free_of n.regions).runs pages) ≡ fits → (is_some part || fits) ≡ is_some (in_copy_or_new s kind bytes pages first id change copy)
  copied pages first id change None None is parts live room = sym room ∙ fresh_is s kind pages false false _ _
  copied pages first id change (Some part) None is parts live room = absurd cc
  copied pages first id change None (Some copy) is parts live room = absurd cc
  copied pages first id change (Some part) (Some copy) is parts live room =
      let same : start_of n part.copy ≡ copy = let e : part_at n part ≡ record { copy = copy; first = first; pages = pages } = cc in ap (λ (p : Part). p.copy) e in
      sym (ap (λ (o : Option Region). is_some (in_copy s first pages o)) (ap (slice_get n.regions) (sym same) ∙ live.there))

  would_be : (want : Want) (part : Option Part) → option_map (part_at n) part ≡ part_for n.regions want → IfSome part (λ p. Lives n p.copy) →
      is_some (place kind (free_of n.regions).runs (new_run want).pages) ≡ fits → (is_some part || fits) ≡ is_some (mapped s kind bytes want)
  unfolding mapped
  would_be (Anon pages) None parts live room = sym room ∙ fresh_is s kind pages true true _ _
  would_be (Anon pages) (Some part) parts live room = absurd cc
  would_be (File pages first true id change) None parts live room = sym room ∙ fresh_is s kind pages true false _ _
  would_be (File pages first true id change) (Some part) parts live room = absurd cc
  would_be (File pages first false id change) part parts live room =
      copied pages first id change part (copy_of n.regions id change first pages) refl parts live room

-- and so for all that has these regions
pub fits_is : (n : Numbered) (fits : Bool) (s : MapState) (bytes : List ℕ) (kind : Kind) (want : Want) (part : Option Part) → s.regions ≡ n.regions →
    option_map (part_at n) part ≡ part_for n.regions want → IfSome part (λ p. Lives n p.copy) →
    is_some (place kind (free_of n.regions).runs (new_run want).pages) ≡ fits → (is_some part || fits) ≡ is_some (mapped s kind bytes want)
fits_is n fits s bytes kind want part same parts live room =
    would_be n fits s.held s.memory bytes kind want part parts live room ∙ ap (λ rs. is_some (mapped (map_state s.held rs s.memory) kind bytes want)) (sym same)
