-- A mapping of pages of a copy: other mappings that have bytes in its pages name the same copy.
use Rattle.std.proofs.Common.{◌≡◌, ℕ, ◌-◌, ◌*◌, ◌%◌, ◌^◌, ◌<◌, ◌≤◌, inl, inr, true, false, List, length, sym, ap, ◌∙◌, arith}
use Rattle.std.specs.Prelude.{Some, slice_get}
use Rattle.std.proofs.lemmas.Bool.{cases_Bool, false≢true}
use Rattle.std.proofs.lemmas.Bool.Decides.{nat_tests}
use Rattle.std.proofs.lemmas.Option.{same_Some}
use Rattle.nommu_regions.specs.declared.region.Region.{Region}
use Rattle.nommu_regions.specs.Regions.{holds, is_copy, AreRegions}
use Rattle.mmap_rules.specs.declared.mapping.Range.{Range}
use Rattle.mmap_rules.specs.declared.mapping.Mapping.{Mapping}
use Rattle.mmap_rules.specs.declared.page_owner.PageOwner.{PageOwner}
use Rattle.mmap_rules.specs.Owners.{IsTable, Says, distance, meets}
use Rattle.mmap_rules.specs.Held.{IsMapping, AreMappings}
use Rattle.mmap_rules.specs.Mappings.{part_mapping, copied_from, CopyHas, CanAdd}
use Rattle.mmap_rules.specs.MapState.{Names, NameRegions, AreFew}
use Rattle.mmap_rules.proofs.Lists.{found_counted}
use Rattle.mmap_rules.proofs.Mapped.{part_is}
use Rattle.mmap_rules.proofs.Meets.{meets_in, named_holds, few_meet}

-- two ranges that begin on a page and have bytes in one have all of it
same_start : (r s : Range) (page : ℕ) → 2 ^ 31 ≤ r.from → 2 ^ 31 ≤ s.from → r.from % 4096 ≡ 0 → s.from % 4096 ≡ 0 → meets r page ≡ true → meets s page ≡ true →
    distance r - 4096 * page ≡ distance s - 4096 * page
same_start r s page above_r above_s whole_r whole_s on_r on_s =
    let low : distance r ≤ 4096 * page = grind (arith, nat_tests) in
    let high : distance s ≤ 4096 * page = grind (arith, nat_tests) in
    omega (arith, low, high)

-- a mapping of a copy isn't written
not_written : (pages : ℕ) (m : Mapping) → IsMapping pages m → is_copy m.source ≡ true → m.range.writes ≡ false
not_written pages m is copy = elim (cases_Bool m.range.writes) [
  | inl on ↦ absurd (false≢true (sym (ap is_copy (is.writes on)) ∙ copy))
  | inr off ↦ off
]

-- a mapping that has bytes in a page of a region is one of that region
same_source : (pages page : ℕ) (rs : List Region) (id : ℕ) (r : Region) (m : Mapping) → AreRegions rs → slice_get rs id ≡ Some r → holds r page ≡ true →
    IsMapping pages m → Names rs m → meets m.range page ≡ true → m.source ≡ r.source
same_source pages page rs id r m are there has is named on =
    let one = are.apart m.first id named.region r page named.there there (named_holds rs m page are named (meets_in pages page m is on)) has in
    let same : named.region ≡ r = same_Some _ _ (sym named.there ∙ (ap (λ (k : ℕ). slice_get rs k) one ∙ there)) in
    named.source ∙ ap (λ (x : Region). x.source) same

pub part_can : (id first count : ℕ) (rs : List Region) (table : List PageOwner) (maps : List Mapping) (copy : CopyHas rs id first count) →
    IsTable table maps → AreMappings (length table) maps → AreRegions rs → NameRegions rs maps → AreFew rs → length rs ≡ length table → 0 < count →
    CanAdd table (part_mapping copy.region.first copy.region.pages copy.region.source (first - copied_from copy.region.source) count)
part_can id first count rs table maps copy is mappings are names few len some = record {
  mapping = new;
  few = λ page o there. (
      let uses = is.counts page o there in
      let less = few_meet (length table) page rs maps are mappings names few in
      omega (arith, uses, less));
  agrees = agrees;
}
  where
    r : Region
    r = copy.region

    m : Mapping
    m = part_mapping r.first r.pages r.source (first - copied_from r.source) count

    new : IsMapping (length table) m
    new =
        let inside = are.inside id r copy.there copy.live in
        part_is (length table) r.first r.pages (first - copied_from r.source) count r.source some (omega (arith, copy.from, copy.to)) (omega (arith, inside, len))

    agrees : (page : ℕ) (o : PageOwner) → slice_get table page ≡ Some o → meets m.range page ≡ true → 0 < o.uses → Says o page m.range
    agrees page o there on used =
        let uses = is.counts page o there in
        let f = found_counted (λ (n : Mapping). meets n.range page) maps (omega (arith, uses, used)) in
        let other = mappings f.at f.item f.there in
        let within = meets_in (length table) page m new on in
        let live = copy.live in
        let has : holds r page ≡ true = grind (arith, nat_tests) in
        let source = same_source (length table) page rs id r f.item are copy.there has other (names.each f.at f.item f.there) f.passes in
        let copied : is_copy f.item.source ≡ true = ap is_copy source ∙ copy.copy in
        let says = is.says page f.at o f.item there f.there f.passes in (
          says.0 ∙ same_start f.item.range m.range page other.shaped.above new.shaped.above (other.copied copied) (new.copied copy.copy) f.passes on,
          says.1 ∙ not_written (length table) f.item other copied,
        )
