-- Where nothing is watched nothing is told.
use Rattle.std.proofs.Common.{◌∙◌, sym}
use Rattle.watch_points.proofs.HitLists.{unwatched}
use Rattle.watch_points.proofs.watched.run_watched.Goals as goal

pub returns-then-is_empty-clause-hits : goal.returns-then-is_empty-clause-hits
returns-then-is_empty-clause-hits g c = unwatched _ _ _ _ _ (sym c.is_empty.ensures ∙ c.if-is_empty.true)
