use Rattle.std.proofs.Common.{◌≡◌, ℕ, ◌<◌}
use Rattle.std.specs.Prelude.{slice_get, Some}
use Rattle.page_runs.specs.declared.run.Run.{Run}
use Rattle.page_runs.proofs.place.first_fit.Given as goal

abbrev pub invariant-loop-i : goal.invariant-loop-i
invariant-loop-i l = (j : ℕ) (other : Run) → j < l.i → slice_get l.runs j ≡ Some other → other.count < l.need
