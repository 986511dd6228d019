-- The law of all maps, at two tables.
use Rattle.std.proofs.Common.{true, false}
use Rattle.mmap_rules.specs.Owners.{owns}
use Rattle.region_watch.specs.Private.{physical}
use Rattle.region_watch.proofs.Maps.{other_stays}
use Rattle.region_watch.proofs.laws.others_law.Goals as goal

pub returns : goal.returns
returns c = λ table other mem after apart same. other_stays (owns other false) (owns table true) (physical mem) (physical after) apart same
