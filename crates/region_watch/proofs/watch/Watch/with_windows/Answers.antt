use Rattle.std.proofs.Common.{refl}
use Rattle.region_watch.proofs.watch.Watch.with_windows.Goals as goal

pub returns-clause-fresh : goal.returns-clause-fresh
returns-clause-fresh c = record { mem = refl; owners = refl; mode = refl; first = refl }
