use Rattle.std.proofs.Common.{◌≡◌, ◌+◌, ◌-◌, ◌*◌, ◌^◌, ◌∙◌, length, sym, ap, subst, arith}
use Rattle.std.proofs.lemmas.Option.{same_Some}
use Rattle.page_runs.specs.declared.place.Kind.TheVariants.{First}
use Rattle.nommu_regions.specs.declared.region.Region.{Region}
use Rattle.nommu_regions.specs.Ids.{Numbered, start_of}
use Rattle.mmap_rules.specs.Held.{Held, page_address}
use Rattle.mmap_rules.specs.MapState.{NameRegions}
use Rattle.mmap_rules.proofs.Mapped.{places_at_least}
use Rattle.mmap_rules.proofs.Fresh.{fits_inside}
use Rattle.mmap_rules.proofs.FreshRuns.{run_can}
use Rattle.mmap_rules.proofs.Left.{sides_same, held_more, run_filled}
use Rattle.mmap_rules.proofs.space.Space.map_fresh.Goals as goal
use Rattle.mmap_rules.proofs.space.Space.map_fresh.Goals.{then-run, else-run}

-- no more places than memory has pages
pub prove-unreachable-requires : goal.prove-unreachable-requires
prove-unreachable-requires g c =
    let inside = fits_inside c.args.regions.now.regions First c.args.run.now.pages c.requires.run.some (c.fits.ensures First ∙ c.if-not-fits.false) in
    elim c.if-run.branch [
      | then-run w ↦ omega (arith, inside, w.places-is, c.if-prove.true, c.pages-most.ensures.pages)
      | else-run w ↦ omega (arith, w.places-is, c.if-prove.true, c.pages-most.ensures.some)
    ]

pub make_room-requires-clause-some : goal.make_room-requires-clause-some
make_room-requires-clause-some g c = places_at_least (length c.self.inside.owners) c.self.inside.maps.items c.self.invariant.mappings

pub invariant_of-self : goal.invariant_of-self
invariant_of-self g c = rw c.make_room.ensures.items (record { table = c.self.invariant.table; mappings = c.self.invariant.mappings; places = c.make_room.ensures.kept })

pub invariant_of-self-in_default : goal.invariant_of-self-in_default
invariant_of-self-in_default g c = rw c.make_room.ensures.items (record { table = c.self.invariant.table; mappings = c.self.invariant.mappings; places = c.make_room.ensures.kept })

pub overflow_mul-first : goal.overflow_mul-first
overflow_mul-first g c =
    let first : c.region-first.result.first ≡ start_of c.args.regions.now c.in-Some.id = ap (λ (r : Region). r.first) (same_Some _ _ (sym c.region-first.ensures ∙ c.in-Some.ensures.made.region)) in
    omega (arith, first, c.in-Some.ensures.made.free.inside, c.pages-most.ensures.most)

pub overflow_add-first : goal.overflow_add-first
overflow_add-first g c =
    let first : c.region-first.result.first ≡ start_of c.args.regions.now c.in-Some.id = ap (λ (r : Region). r.first) (same_Some _ _ (sym c.region-first.ensures ∙ c.in-Some.ensures.made.region)) in
    omega (arith, first, c.in-Some.ensures.made.free.inside, c.pages-most.ensures.most)

pub run_mapping-requires : goal.run_mapping-requires
run_mapping-requires g c =
    let first : c.region-first.result.first ≡ start_of c.args.regions.now c.in-Some.id = ap (λ (r : Region). r.first) (same_Some _ _ (sym c.region-first.ensures ∙ c.in-Some.ensures.made.region)) in
    omega (arith, first, c.in-Some.ensures.made.free.inside, c.pages-most.ensures.most)

pub add_mapping-requires-clause-kept : goal.add_mapping-requires-clause-kept
add_mapping-requires-clause-kept g c = rw c.make_room.ensures.items (record { table = c.self.invariant.table; mappings = c.self.invariant.mappings; places = c.make_room.ensures.kept })

pub add_mapping-requires-clause-can : goal.add_mapping-requires-clause-can
add_mapping-requires-clause-can g c =
    let first : c.region-first.result.first ≡ start_of c.args.regions.now c.in-Some.id = ap (λ (r : Region). r.first) (same_Some _ _ (sym c.region-first.ensures ∙ c.in-Some.ensures.made.region)) in
    let names : NameRegions c.args.regions.now.regions c.self.inside.maps.items = subst (λ (h : Held). NameRegions c.args.regions.now.regions h.maps) (sym c.self.view_is) c.requires.can.lies.names in
    let pages : length c.self.inside.owners ≡ c.args.self.now.pages = ap (λ (h : Held). h.pages) c.self.view_is in
    rw (c.run_mapping.ensures, first)
    (run_can (start_of c.args.regions.now c.in-Some.id) c.args.run.now.pages c.args.run.now.writes c.args.run.now.anonymous c.args.run.now.source c.args.regions.now.regions c.self.inside.owners
    c.self.inside.maps.items c.self.invariant.table c.self.invariant.mappings c.pages-most.ensures.regions names c.requires.can.lies.few (omega (arith, pages, c.requires.can.lies.pages)) c.requires.run
    c.in-Some.ensures.made.free)

pub invariant_of-self-2 : goal.invariant_of-self-2
invariant_of-self-2 g c = c.add_mapping.ensures.kept

pub returns-clause-maps : goal.returns-clause-maps
returns-clause-maps g c =
    let first : c.region-first.result.first ≡ start_of c.args.regions.now c.in-Some.id = ap (λ (r : Region). r.first) (same_Some _ _ (sym c.region-first.ensures ∙ c.in-Some.ensures.made.region)) in
    let placed = sym c.in-Some.ensures.placed in
    let maps = c.add_mapping.ensures.maps in
    let held = held_more c.args.self.now c.self.inside.maps.items c.add_mapping.new.maps.items c.self.inside.brk c.self.inside.brk_low c.self.inside.brk_high
    (length c.self.inside.owners) (length c.add_mapping.new.owners) _ c.self.view_is (rw (c.make_room.ensures.items, c.run_mapping.ensures, first) at maps) c.add_mapping.ensures.pages in
    let inside = c.in-Some.ensures.made.free.inside in
    let memory = run_filled c.args.mem.now c.fresh.new.mem c.copy_in.new.self (start_of c.args.regions.now c.in-Some.id) c.args.run.now.pages (2 ^ 31 + 4096 * c.region-first.result.first - 2 ^ 31) c.args.bytes.now
    (omega (arith, inside, c.requires.can.memory)) c.requires.bytes (omega (arith, first)) c.in-Some.ensures.made.memory c.copy_in.ensures in
    rw placed (ap page_address first, sides_same _ _ _ _ _ _ held (ap (λ (x : Numbered). x.regions) c.in-Some.ensures.made.regions) memory)
