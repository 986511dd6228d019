use Rattle.watch_points.proofs.HitLists.{with_hits-nil, with_hits-append, with_hits-first}
use Rattle.watch_points.proofs.laws.found_law.Goals as goal

pub returns : goal.returns
returns c = record { joined = with_hits-append; none = with_hits-nil; first = with_hits-first }
