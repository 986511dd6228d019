-- ENOMEM is due where no run fits, and only there.
use Rattle.std.proofs.Common.{◌≡◌, ℕ, Bool, false, List, refl, sym, ap, subst, ◌∙◌}
use Rattle.std.specs.Prelude.{Option, Some, None, is_some, option_map}
use Rattle.std.proofs.lemmas.Option.{none-some}
use Rattle.page_runs.specs.declared.place.Kind.{Kind}
use Rattle.page_runs.specs.declared.run.Run.{Run}
use Rattle.page_runs.specs.Place.{Placed, place, first_of}
use Rattle.page_runs.proofs.Places.{placed}
use Rattle.nommu_regions.specs.declared.region.Region.{Region}
use Rattle.nommu_regions.specs.declared.region.Source.{Source}
use Rattle.nommu_regions.specs.Regions.{free_of}
use Rattle.mmap_rules.specs.MapState.{MapState, in_fresh_run, in_copy}

pub none_fits : (s : MapState) (kind : Kind) (pages : ℕ) (writes anonymous : Bool) (source : Source) (bytes : List ℕ) →
    in_fresh_run s kind pages writes anonymous source bytes ≡ None → is_some (place kind (free_of s.regions).runs pages) ≡ false
none_fits s kind pages writes anonymous source bytes none = at (place kind (free_of s.regions).runs pages) refl
  where
    at : (o : Option ℕ) → place kind (free_of s.regions).runs pages ≡ o → is_some (place kind (free_of s.regions).runs pages) ≡ false
    at None is = ap is_some is
    at (Some i) is =
        let rule = subst (Placed kind (free_of s.regions).runs pages) is (placed kind (free_of s.regions).runs pages) in
        let first : first_of (free_of s.regions).runs (place kind (free_of s.regions).runs pages) ≡ Some rule.run.first =
        ap (first_of (free_of s.regions).runs) is ∙ ap (option_map (λ (r : Run). r.first)) rule.there in
        absurd (none-some _ (sym (rw first at none)))

-- a copy that is there is mapped
pub copy_fits : (s : MapState) (first pages : ℕ) (o : Option Region) (r : Region) → o ≡ Some r → in_copy s first pages o ≡ None → ⊥
copy_fits s first pages o r is none = none-some _ (sym (rw is at none))
