use Rattle.std.proofs.Common.{◌≡◌, rules}
use Rattle.mmap_rules.specs.Held.{released}
use Rattle.mmap_rules.proofs.Released.{lose_uses}
use Rattle.mmap_rules.proofs.space.Space.release.Goals as goal

pub returns-clause-uses : goal.returns-clause-uses
returns-clause-uses c =
    let is : c.release_all.new.regions.regions ≡ released c.args.regions.now.regions c.args.self.maps = search rules in
    rw is (lose_uses c.args.regions.now.regions c.args.self.maps)
