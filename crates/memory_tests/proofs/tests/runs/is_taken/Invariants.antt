use Rattle.std.proofs.Common.{◌≡◌, ℕ, true, drop}
use Rattle.page_runs.specs.Pages.{in_run, has_page}
use Rattle.memory_tests.proofs.tests.runs.is_taken.Given as goal

abbrev pub invariant-loop-run : goal.invariant-loop-run
invariant-loop-run l = (p : ℕ) → in_run l.first l.count p ≡ true → has_page (drop l.run-index l.runs) p ≡ has_page l.runs p
