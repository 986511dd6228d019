use Rattle.std.proofs.Common.{◌≡◌}
use Rattle.memory_tests.proofs.tests.runs.places.Given as goal

abbrev pub invariant-loop-kind : goal.invariant-loop-kind
invariant-loop-kind l = l.runs.pages ≡ 24
