-- What the numbers so far give.
use Rattle.std.proofs.Common.{◌≡◌}
use Rattle.std.proofs.Common.{map}
use Rattle.manifest_text.specs.Values.{start_value}
use Rattle.suite_top.specs.Demo.{each_of, demo_start}
use Rattle.suite_top.proofs.demo_run.demo_starts.Given as goal

abbrev pub invariant-loop-before : goal.invariant-loop-before
invariant-loop-before l = map start_value l.starts.items ≡ each_of demo_start l.before
