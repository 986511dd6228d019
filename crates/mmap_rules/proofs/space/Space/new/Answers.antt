use Rattle.std.proofs.Common.{◌≡◌, ◌<◌, ◌≤◌, [], ◌∷◌, length, sym, ap, ◌∙◌, subst, arith}
use Rattle.std.specs.Prelude.{vec_capacity}
use Rattle.std.specs.List.{sum_by}
use Rattle.nommu_regions.specs.declared.region.Region.{Region}
use Rattle.nommu_regions.specs.Ids.{start_of}
use Rattle.mmap_rules.specs.declared.mapping.Mapping.{Mapping}
use Rattle.mmap_rules.specs.Owners.{IsTable}
use Rattle.mmap_rules.specs.Held.{block_mapping, IsMapping, places_of}
use Rattle.mmap_rules.proofs.TableMore.{table_first}
use Rattle.mmap_rules.proofs.Mapped.{block_is, mapped_one}
use Rattle.mmap_rules.proofs.space.Space.new.Goals as goal

pub invariant_of-result : goal.invariant_of-result
invariant_of-result c =
    let rs = c.args.regions.now.regions in
    let first = start_of c.args.regions.now c.args.block in
    let r = c.region-region.result in
    let there = c.region-region.ensures in
    let same : c.requires.live.region ≡ r = cc in
    let live : 0 < r.uses = subst (λ (x : Region). 0 < x.uses) same c.requires.live.live in
    let are = c.pages-pages.ensures.regions in
    let some = are.some first r there live in
    let inside = are.inside first r there live in
    let m = c.block_mapping-mapping.result in
    let is : m ≡ block_mapping r.first r.pages = c.block_mapping-mapping.ensures in
    let pages : length c.add.new.self ≡ length rs = c.add.ensures.len ∙ c.room.view_is ∙ c.requires.pages in
    let mapping : IsMapping (length c.add.new.self) m =
    subst (λ (x : Mapping). IsMapping (length c.add.new.self) x) (sym is) (block_is (length c.add.new.self) r.first r.pages some (omega (arith, inside, pages))) in
    let table : IsTable c.add.new.self (m ∷ []) = table_first c.room.inside.owners c.add.new.self m c.room.invariant.0 c.add.ensures.each in
    let none : c.room.inside.maps.items ≡ [] = c.room.invariant.1 in
    let maps : c.push.new.self.items ≡ m ∷ [] = rw (c.unwrap.ensures, none) at c.push.ensures.items in
    let places : sum_by places_of (m ∷ []) ≡ 1 = ap (λ (x : Mapping). sum_by places_of (x ∷ [])) is in
    let room = c.room.invariant.3 in
    let more = c.push.ensures.capacity in
    let fits : sum_by places_of (m ∷ []) ≤ vec_capacity c.push.new.self = omega (arith, places, room, more) in
    rw maps (record { table = table; mappings = mapped_one (length c.add.new.self) m mapping; places = fits })
