-- A mapping of a fresh run: no mapping has bytes in its pages.
use Rattle.std.proofs.Common.{◌≡◌, ℕ, Bool, true, List, length, arith}
use Rattle.std.specs.Prelude.{count_by}
use Rattle.std.proofs.lemmas.Bool.{false_from_ne_true, both_ways}
use Rattle.page_runs.specs.Pages.{in_run}
use Rattle.nommu_regions.specs.declared.region.Region.{Region}
use Rattle.nommu_regions.specs.declared.region.Source.{Source}
use Rattle.nommu_regions.specs.Regions.{is_held, AreRegions, AreFree}
use Rattle.nommu_regions.proofs.Held.{held_by}
use Rattle.mmap_rules.specs.declared.mapping.Mapping.{Mapping}
use Rattle.mmap_rules.specs.declared.page_owner.PageOwner.{PageOwner}
use Rattle.mmap_rules.specs.Owners.{IsTable, meets}
use Rattle.mmap_rules.specs.Held.{AreMappings}
use Rattle.mmap_rules.specs.Mappings.{run_mapping, IsNewRun, CanAdd}
use Rattle.mmap_rules.specs.MapState.{NameRegions, AreFew}
use Rattle.mmap_rules.proofs.Mapped.{run_is}
use Rattle.mmap_rules.proofs.Meets.{meets_in, named_holds, count_none, few_meet}

-- the pages of a free run
pub none_meet : (pages first count page : ℕ) (rs : List Region) (maps : List Mapping) → AreRegions rs → AreMappings pages maps → NameRegions rs maps →
    AreFree rs first count → in_run first count page ≡ true → count_by (λ m. meets m.range page) maps ≡ 0
none_meet pages first count page rs maps are mappings names free within =
    count_none (λ (m : Mapping). meets m.range page) maps (λ j m there. false_from_ne_true (meets m.range page) (λ on.
    let named = names.each j m there in
    let held = held_by rs m.first named.region page named.there (named_holds rs m page are named (meets_in pages page m (mappings j m there) on)) in
    both_ways (is_held rs page) (free.free page within) held))

pub run_can : (first count : ℕ) (writes anonymous : Bool) (source : Source) (rs : List Region) (table : List PageOwner) (maps : List Mapping) →
    IsTable table maps → AreMappings (length table) maps → AreRegions rs → NameRegions rs maps → AreFew rs → length rs ≡ length table →
    IsNewRun count writes anonymous source → AreFree rs first count → CanAdd table (run_mapping first count writes anonymous source)
run_can first count writes anonymous source rs table maps is mappings are names few len new free =
    let inside = free.inside in
    let run = run_is (length table) first count writes anonymous source new.some (omega (arith, inside, len)) new.written new.whole in
    record {
      mapping = run;
      few = λ page o there. (
          let uses = is.counts page o there in
          let less = few_meet (length table) page rs maps are mappings names few in
          omega (arith, uses, less));
      agrees = λ page o there on some. (
          let uses = is.counts page o there in
          let none = none_meet (length table) first count page rs maps are mappings names free (meets_in (length table) page (run_mapping first count writes anonymous source) run on) in
          absurd (omega (arith, uses, none, some)));
    }
