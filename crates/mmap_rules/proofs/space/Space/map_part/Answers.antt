use Rattle.std.proofs.Common.{◌≡◌, ◌-◌, length, sym, ap, ◌∙◌, subst, arith}
use Rattle.std.proofs.lemmas.Option.{same_Some}
use Rattle.nommu_regions.specs.declared.region.Region.{Region}
use Rattle.nommu_regions.specs.Ids.{start_of}
use Rattle.mmap_rules.specs.Held.{Held}
use Rattle.mmap_rules.specs.Mappings.{part_mapping, copied_from}
use Rattle.mmap_rules.specs.MapState.{NameRegions}
use Rattle.mmap_rules.proofs.Mapped.{places_at_least}
use Rattle.mmap_rules.proofs.Copies.{part_can}
use Rattle.mmap_rules.proofs.space.Space.map_part.Goals as goal

pub make_room-requires-clause-some : goal.make_room-requires-clause-some
make_room-requires-clause-some c = places_at_least (length c.self.inside.owners) c.self.inside.maps.items c.self.invariant.mappings

pub invariant_of-self : goal.invariant_of-self
invariant_of-self c = rw c.make_room.ensures.items (record { table = c.self.invariant.table; mappings = c.self.invariant.mappings; places = c.make_room.ensures.kept })

pub add_mapping-requires-clause-kept : goal.add_mapping-requires-clause-kept
add_mapping-requires-clause-kept c = rw c.make_room.ensures.items (record { table = c.self.invariant.table; mappings = c.self.invariant.mappings; places = c.make_room.ensures.kept })

pub add_mapping-requires-clause-can : goal.add_mapping-requires-clause-can
add_mapping-requires-clause-can c =
    let names : NameRegions c.args.regions.now.regions c.self.inside.maps.items = subst (λ (h : Held). NameRegions c.args.regions.now.regions h.maps) (sym c.self.view_is) c.requires.lies.names in
    let pages : length c.self.inside.owners ≡ c.args.self.now.pages = ap (λ (h : Held). h.pages) c.self.view_is in
    let same : c.requires.copy.region ≡ c.region-region.result = same_Some _ _ (sym c.requires.copy.there ∙ c.region-region.ensures) in
    let mapping : part_mapping c.requires.copy.region.first c.requires.copy.region.pages c.requires.copy.region.source (c.args.first - copied_from c.requires.copy.region.source) c.args.pages ≡ c.part_mapping-mapping.result =
    ap (λ (r : Region). part_mapping r.first r.pages r.source (c.args.first - copied_from r.source) c.args.pages) same ∙ sym c.part_mapping-mapping.ensures in
    rw (← mapping) (part_can (start_of c.args.regions.now c.args.copy) c.args.first c.args.pages c.args.regions.now.regions c.self.inside.owners c.self.inside.maps.items c.requires.copy c.self.invariant.table c.self.invariant.mappings
    c.pages-memory.ensures.regions names c.requires.lies.few (omega (arith, pages, c.requires.lies.pages)) c.requires.some)

pub invariant_of-self-2 : goal.invariant_of-self-2
invariant_of-self-2 c = c.add_mapping.ensures.kept
