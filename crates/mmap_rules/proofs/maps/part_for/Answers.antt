use Rattle.std.proofs.Common.{refl}
use Rattle.nommu_regions.specs.Ids.{start_of}
use Rattle.mmap_rules.proofs.Chosen.{copy_has, part_is}
use Rattle.mmap_rules.proofs.maps.part_for.Goals as goal

pub returns-clause-part : goal.returns-clause-part
returns-clause-part c =
    let n = c.in-File-default-default-false-default-default in
    part_is c.args.regions.now c.args.want _ _ n.write _ _ c.in_ok-copy.copy c.in_ok-copy.ensures.lowest
    (cc (n.is, n.pages-is, n.first-is, n.id-is, n.change-is)) (cc (n.write-is, n.write-test))

pub returns-clause-copy : goal.returns-clause-copy
returns-clause-copy c =
    let live = c.in_ok-copy.ensures.live in
    copy_has c.args.regions.now.regions (start_of c.args.regions.now c.in_ok-copy.copy) _ _ _ _ live.region live.there (c.in_ok-copy.ensures.copy c.in_ok-copy.copy live.region refl live.there)
