use Rattle.std.proofs.Common.{◌≡◌, ◌-◌, ℕ, length, refl, ap, arith}
use Rattle.page_runs.specs.Free.{Free}
use Rattle.nommu_regions.proofs.OneChanges.{kept_used, kept_gone, taken_by}
use Rattle.nommu_regions.proofs.Numbered.{read_at, inverse_set, uses_is, others_stay, free_last, free_used}
use Rattle.nommu_regions.proofs.regions.Regions.drop_use.Goals as goal

pub overflow_sub-region : goal.overflow_sub-region
overflow_sub-region c =
    let at = read_at c.self.inside.regions.items c.self.inside.ids.items c.self.inside.starts.items c.args.self.now c.args.id c.index-first.result.now _ _ c.index-region.result.now c.self.view_is c.self.invariant.1 c.requires c.self.inside.starts.ok.0 c.index-first.ensures c.self.inside.regions.ok.0 c.index-region.ensures in
    omega (arith, at.live)

pub give-requires-clause-inside : goal.give-requires-clause-inside
give-requires-clause-inside c =
    let at = read_at c.self.inside.regions.items c.self.inside.ids.items c.self.inside.starts.items c.args.self.now c.args.id c.index-first.result.now _ _ c.index-region.result.now c.self.view_is c.self.invariant.1 c.requires c.self.inside.starts.ok.0 c.index-first.ensures c.self.inside.regions.ok.0 c.index-region.ensures in
    let pages : c.self.inside.free.pages ≡ length c.self.inside.regions.items = ap (λ (f : Free). f.pages) c.self.invariant.0.1 in
    omega (arith, pages, c.self.invariant.0.0.inside c.index-first.result.now c.index-region.result.now at.there at.live)

pub give-requires-clause-taken : goal.give-requires-clause-taken
give-requires-clause-taken c =
    let at = read_at c.self.inside.regions.items c.self.inside.ids.items c.self.inside.starts.items c.args.self.now c.args.id c.index-first.result.now _ _ c.index-region.result.now c.self.view_is c.self.invariant.1 c.requires c.self.inside.starts.ok.0 c.index-first.ensures c.self.inside.regions.ok.0 c.index-region.ensures in
    taken_by c.self.inside.regions.items c.self.inside.free c.index-first.result.now c.index-region.result.now c.self.invariant.0 at.there at.live

pub invariant_of-self : goal.invariant_of-self
invariant_of-self c =
    let at = read_at c.self.inside.regions.items c.self.inside.ids.items c.self.inside.starts.items c.args.self.now c.args.id c.index-first.result.now _ _ c.index-region.result.now c.self.view_is c.self.invariant.1 c.requires c.self.inside.starts.ok.0 c.index-first.ensures c.self.inside.regions.ok.0 c.index-region.ensures in
    (kept_gone c.self.inside.regions.items c.self.inside.free c.give.new.self c.index-first.result.now c.index-region.result.now _ c.self.invariant.0 at.there at.live refl refl (omega arith) c.give.ensures, inverse_set c.self.inside.regions.items c.self.inside.ids.items c.self.inside.starts.items c.index-first.result.now _ c.self.invariant.1)

pub invariant_of-self-else-region-eq1 : goal.invariant_of-self-else-region-eq1
invariant_of-self-else-region-eq1 c =
    let at = read_at c.self.inside.regions.items c.self.inside.ids.items c.self.inside.starts.items c.args.self.now c.args.id c.index-first.result.now _ _ c.index-region.result.now c.self.view_is c.self.invariant.1 c.requires c.self.inside.starts.ok.0 c.index-first.ensures c.self.inside.regions.ok.0 c.index-region.ensures in
    (kept_used c.self.inside.regions.items c.self.inside.free c.index-first.result.now c.index-region.result.now _ c.self.invariant.0 at.there at.live refl refl (omega (arith, at.live)), inverse_set c.self.inside.regions.items c.self.inside.ids.items c.self.inside.starts.items c.index-first.result.now _ c.self.invariant.1)

pub returns-then-region-eq1-clause-uses : goal.returns-then-region-eq1-clause-uses
returns-then-region-eq1-clause-uses c = uses_is c.self.inside.regions.items c.self.inside.starts.items c.args.self.now c.args.id c.index-first.result.now c.index-region.result.now (λ (uses : ℕ). uses - 1) (read_at c.self.inside.regions.items c.self.inside.ids.items c.self.inside.starts.items c.args.self.now c.args.id c.index-first.result.now _ _ c.index-region.result.now c.self.view_is c.self.invariant.1 c.requires c.self.inside.starts.ok.0 c.index-first.ensures c.self.inside.regions.ok.0 c.index-region.ensures)

pub returns-then-region-eq1-clause-others : goal.returns-then-region-eq1-clause-others
returns-then-region-eq1-clause-others c = others_stay c.self.inside.regions.items c.self.inside.ids.items c.self.inside.starts.items c.args.self.now c.args.id c.index-first.result.now c.index-region.result.now _ c.self.invariant.1 (read_at c.self.inside.regions.items c.self.inside.ids.items c.self.inside.starts.items c.args.self.now c.args.id c.index-first.result.now _ _ c.index-region.result.now c.self.view_is c.self.invariant.1 c.requires c.self.inside.starts.ok.0 c.index-first.ensures c.self.inside.regions.ok.0 c.index-region.ensures)

pub returns-else-region-eq1-clause-uses : goal.returns-else-region-eq1-clause-uses
returns-else-region-eq1-clause-uses c = uses_is c.self.inside.regions.items c.self.inside.starts.items c.args.self.now c.args.id c.index-first.result.now c.index-region.result.now (λ (uses : ℕ). uses - 1) (read_at c.self.inside.regions.items c.self.inside.ids.items c.self.inside.starts.items c.args.self.now c.args.id c.index-first.result.now _ _ c.index-region.result.now c.self.view_is c.self.invariant.1 c.requires c.self.inside.starts.ok.0 c.index-first.ensures c.self.inside.regions.ok.0 c.index-region.ensures)

pub returns-else-region-eq1-clause-others : goal.returns-else-region-eq1-clause-others
returns-else-region-eq1-clause-others c = others_stay c.self.inside.regions.items c.self.inside.ids.items c.self.inside.starts.items c.args.self.now c.args.id c.index-first.result.now c.index-region.result.now _ c.self.invariant.1 (read_at c.self.inside.regions.items c.self.inside.ids.items c.self.inside.starts.items c.args.self.now c.args.id c.index-first.result.now _ _ c.index-region.result.now c.self.view_is c.self.invariant.1 c.requires c.self.inside.starts.ok.0 c.index-first.ensures c.self.inside.regions.ok.0 c.index-region.ensures)

pub returns-then-region-eq1-clause-free : goal.returns-then-region-eq1-clause-free
returns-then-region-eq1-clause-free c r named = free_last c.self.inside.regions.items _ c.self.inside.starts.items c.args.self.now c.args.id c.index-first.result.now c.index-region.result.now c.self.inside.free c.give.new.self (read_at c.self.inside.regions.items c.self.inside.ids.items c.self.inside.starts.items c.args.self.now c.args.id c.index-first.result.now _ _ c.index-region.result.now c.self.view_is c.self.invariant.1 c.requires c.self.inside.starts.ok.0 c.index-first.ensures c.self.inside.regions.ok.0 c.index-region.ensures) c.self.invariant.0 (invariant_of-self c).0 c.give.ensures c.if-region-eq1.true r named

pub returns-else-region-eq1-clause-free : goal.returns-else-region-eq1-clause-free
returns-else-region-eq1-clause-free c r named = free_used c.self.inside.regions.items _ c.self.inside.starts.items c.args.self.now c.args.id c.index-first.result.now c.index-region.result.now c.self.inside.free (read_at c.self.inside.regions.items c.self.inside.ids.items c.self.inside.starts.items c.args.self.now c.args.id c.index-first.result.now _ _ c.index-region.result.now c.self.view_is c.self.invariant.1 c.requires c.self.inside.starts.ok.0 c.index-first.ensures c.self.inside.regions.ok.0 c.index-region.ensures) c.self.invariant.0 (invariant_of-self-else-region-eq1 c).0 c.if-region-eq1.false r named
