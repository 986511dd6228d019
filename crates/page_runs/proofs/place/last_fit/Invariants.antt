use Rattle.std.proofs.Common.{◌≡◌, ℕ, ◌<◌, ◌≤◌, length}
use Rattle.std.specs.Prelude.{slice_get, Some}
use Rattle.page_runs.specs.declared.run.Run.{Run}
use Rattle.page_runs.proofs.place.last_fit.Given as goal

abbrev pub invariant-loop-i : goal.invariant-loop-i
invariant-loop-i l = (l.i ≤ length l.runs) × ((j : ℕ) (other : Run) → l.i ≤ j → slice_get l.runs j ≡ Some other → other.count < l.need)

abbrev pub decreases-loop-i : goal.decreases-loop-i
decreases-loop-i l = l.i
