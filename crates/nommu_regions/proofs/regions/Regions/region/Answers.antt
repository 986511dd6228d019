use Rattle.nommu_regions.proofs.Numbered.{read_at, region_at}
use Rattle.nommu_regions.proofs.regions.Regions.region.Goals as goal

pub returns : goal.returns
returns c =
    let at = read_at c.self.inside.regions.items c.self.inside.ids.items c.self.inside.starts.items c.args.self.now c.args.id c.index-first.result.now _ _ c.index.result.now c.self.view_is c.self.invariant.1 c.requires c.self.inside.starts.ok.0 c.index-first.ensures c.self.inside.regions.ok.0 c.index.ensures in
    region_at c.self.inside.regions.items c.self.inside.starts.items c.args.self.now c.args.id c.index-first.result.now c.index.result.now at
