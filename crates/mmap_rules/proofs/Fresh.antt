-- A fresh run is free.
use Rattle.std.proofs.Common.{◌≡◌, ℕ, ◌<◌, ◌≤◌, true, false, List, length, refl, sym, ap, ◌∙◌, arith}
use Rattle.std.specs.Prelude.{Option, Some, None, is_some, option_map}
use Rattle.std.proofs.lemmas.Bool.Decides.{nat_tests}
use Rattle.std.proofs.lemmas.Option.{none-some, same_Some}
use Rattle.page_runs.specs.declared.place.Kind.{Kind}
use Rattle.page_runs.specs.declared.run.Run.{Run}
use Rattle.page_runs.specs.Place.{Placed, place, first_of}
use Rattle.page_runs.proofs.Places.{placed}
use Rattle.page_runs.proofs.Changes.{page_of_run}
use Rattle.nommu_regions.specs.declared.region.Region.{Region}
use Rattle.nommu_regions.specs.Regions.{AreFree, free_of}
use Rattle.nommu_regions.proofs.FreeRuns.{are_free}

pub fresh_free : (rs : List Region) (kind : Kind) (need first : ℕ) → 0 < need →
    first_of (free_of rs).runs (place kind (free_of rs).runs need) ≡ Some first → AreFree rs first need
fresh_free rs kind need first some is = at (place kind (free_of rs).runs need) (placed kind (free_of rs).runs need) is
  where
    at : (o : Option ℕ) → Placed kind (free_of rs).runs need o → first_of (free_of rs).runs o ≡ Some first → AreFree rs first need
    at None rule none = absurd (none-some first none)
    at (Some i) rule there =
        let begins : rule.run.first ≡ first = same_Some _ _ (sym (ap (option_map (λ (r : Run). r.first)) rule.there) ∙ there) in
        let fits = rule.fits in
        are_free rs first need some (λ p within. page_of_run (free_of rs).runs i rule.run p rule.there (grind (arith, nat_tests)))

-- a run that fits lies in memory
pub fits_inside : (rs : List Region) (kind : Kind) (need : ℕ) → 0 < need → is_some (place kind (free_of rs).runs need) ≡ true → need ≤ length rs
fits_inside rs kind need some fits = at (place kind (free_of rs).runs need) (placed kind (free_of rs).runs need) refl
  where
    at : (o : Option ℕ) → Placed kind (free_of rs).runs need o → place kind (free_of rs).runs need ≡ o → need ≤ length rs
    at None rule is = absurd (let wrong : true ≡ false = sym fits ∙ ap is_some is in cc)
    at (Some i) rule is =
        let free = fresh_free rs kind need rule.run.first some (ap (first_of (free_of rs).runs) is ∙ ap (option_map (λ (r : Run). r.first)) rule.there) in
        omega (arith, free.inside)
