use Rattle.page_runs.proofs.Searches.{SoFar}
use Rattle.page_runs.proofs.place.best_fit.Given as goal

abbrev pub invariant-loop-i : goal.invariant-loop-i
invariant-loop-i l = SoFar l.runs l.need l.i l.best
