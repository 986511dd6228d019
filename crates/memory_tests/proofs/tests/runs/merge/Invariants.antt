use Rattle.std.proofs.Common.{◌≡◌}
use Rattle.memory_tests.proofs.tests.runs.merge.Given as goal

abbrev pub invariant-loop-first : goal.invariant-loop-first
invariant-loop-first l = l.runs.pages ≡ 24
