use Rattle.watch_points.proofs.HitLists.{hits_in-append, hits_in-unwatched}
use Rattle.watch_points.proofs.laws.hits_law.Goals as goal

pub returns : goal.returns
returns c = record { joined = hits_in-append; none = hits_in-unwatched }
