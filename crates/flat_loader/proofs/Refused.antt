-- A load that isn't refused: the frame fits, and so does a run.
use Rattle.std.proofs.Common.{◌≡◌, ℕ, true, false, List, refl, sym, ap, subst, ◌∙◌}
use Rattle.std.specs.Prelude.{Option, Some, None, is_some, option_map, Result}
use Rattle.page_runs.specs.declared.place.Kind.{Kind}
use Rattle.page_runs.specs.declared.run.Run.{Run}
use Rattle.page_runs.specs.Place.{Placed, place, first_of}
use Rattle.page_runs.proofs.Places.{placed}
use Rattle.nommu_regions.specs.declared.region.Region.{Region}
use Rattle.nommu_regions.specs.Regions.{free_of}
use Rattle.bflt_format.specs.Values.{Values}
use Rattle.flat_loader.specs.declared.loaded.Loaded.{Loaded}
use Rattle.flat_loader.specs.declared.loaded.LoadRefusal.{LoadRefusal}
use Rattle.flat_loader.specs.Original.{flat_original, block_pages}
use Rattle.flat_loader.specs.Frame.{frame_fits}
use Rattle.flat_loader.specs.Loads.{RefusesLoad, block_page, load_refusal}

-- a run that fits begins at a page
page_there : (kind : Kind) (old : List Region) (need : ℕ) → is_some (place kind (free_of old).runs need) ≡ true → (page : ℕ) × (block_page kind old need ≡ Some page)
page_there kind old need fits = at (place kind (free_of old).runs need) (placed kind (free_of old).runs need) refl
  where
    at : (o : Option ℕ) → Placed kind (free_of old).runs need o → place kind (free_of old).runs need ≡ o → (page : ℕ) × (block_page kind old need ≡ Some page)
    at None rule is = absurd (let wrong : true ≡ false = sym fits ∙ ap is_some is in cc)
    at (Some i) rule is = (rule.run.first, ap (first_of (free_of old).runs) is ∙ ap (option_map (λ (r : Run). r.first)) rule.there)

module _ (kind : Kind) (f : Values) (args env : List (List ℕ)) (old : List Region) (answer : Result Loaded LoadRefusal) where
  pub not_refused : frame_fits (flat_original f) args env ≡ true → (n : ℕ) → n ≡ block_pages (flat_original f) → is_some (place kind (free_of old).runs n) ≡ true →
      RefusesLoad (load_refusal kind f args env old) answer
  not_refused fits n same some = let page = page_there kind old (block_pages (flat_original f)) (subst (λ (k : ℕ). is_some (place kind (free_of old).runs k) ≡ true) same some) in rw (fits, page.1) tt
