use Rattle.std.proofs.Common.{◌+◌, ℕ, refl, arith}
use Rattle.nommu_regions.proofs.OneChanges.{kept_used}
use Rattle.nommu_regions.proofs.Numbered.{read_at, region_at, inverse_set, uses_is, lives_set, others_stay}
use Rattle.nommu_regions.proofs.regions.Regions.add_use.Goals as goal

pub overflow_add-index_mut : goal.overflow_add-index_mut
overflow_add-index_mut c =
    let at = read_at c.self.inside.regions.items c.self.inside.ids.items c.self.inside.starts.items c.args.self.now c.args.id c.index-first.result.now _ _ c.index_mut.result.now c.self.view_is c.self.invariant.1 c.requires.live c.self.inside.starts.ok.0 c.index-first.ensures c.self.inside.regions.ok.0 c.index_mut.ensures.value in
    let uses = rw (region_at c.self.inside.regions.items c.self.inside.starts.items c.args.self.now c.args.id c.index-first.result.now c.index_mut.result.now at) at c.requires.few in
    omega (arith, uses)

pub invariant_of-self : goal.invariant_of-self
invariant_of-self c =
    let at = read_at c.self.inside.regions.items c.self.inside.ids.items c.self.inside.starts.items c.args.self.now c.args.id c.index-first.result.now _ _ c.index_mut.result.now c.self.view_is c.self.invariant.1 c.requires.live c.self.inside.starts.ok.0 c.index-first.ensures c.self.inside.regions.ok.0 c.index_mut.ensures.value in
    (kept_used c.self.inside.regions.items c.self.inside.free c.index-first.result.now c.index_mut.result.now _ c.self.invariant.0 at.there at.live refl refl (omega arith), inverse_set c.self.inside.regions.items c.self.inside.ids.items c.self.inside.starts.items c.index-first.result.now _ c.self.invariant.1)

pub returns-clause-uses : goal.returns-clause-uses
returns-clause-uses c = uses_is c.self.inside.regions.items c.self.inside.starts.items c.args.self.now c.args.id c.index-first.result.now c.index_mut.result.now (λ (uses : ℕ). uses + 1) (read_at c.self.inside.regions.items c.self.inside.ids.items c.self.inside.starts.items c.args.self.now c.args.id c.index-first.result.now _ _ c.index_mut.result.now c.self.view_is c.self.invariant.1 c.requires.live c.self.inside.starts.ok.0 c.index-first.ensures c.self.inside.regions.ok.0 c.index_mut.ensures.value)

pub returns-clause-live : goal.returns-clause-live
returns-clause-live c = lives_set c.self.inside.regions.items c.self.inside.starts.items c.args.self.now c.args.id c.index-first.result.now c.index_mut.result.now _ (read_at c.self.inside.regions.items c.self.inside.ids.items c.self.inside.starts.items c.args.self.now c.args.id c.index-first.result.now _ _ c.index_mut.result.now c.self.view_is c.self.invariant.1 c.requires.live c.self.inside.starts.ok.0 c.index-first.ensures c.self.inside.regions.ok.0 c.index_mut.ensures.value) (omega arith)

pub returns-clause-others : goal.returns-clause-others
returns-clause-others c = others_stay c.self.inside.regions.items c.self.inside.ids.items c.self.inside.starts.items c.args.self.now c.args.id c.index-first.result.now c.index_mut.result.now _ c.self.invariant.1 (read_at c.self.inside.regions.items c.self.inside.ids.items c.self.inside.starts.items c.args.self.now c.args.id c.index-first.result.now _ _ c.index_mut.result.now c.self.view_is c.self.invariant.1 c.requires.live c.self.inside.starts.ok.0 c.index-first.ensures c.self.inside.regions.ok.0 c.index_mut.ensures.value)
