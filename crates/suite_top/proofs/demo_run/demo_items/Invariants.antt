-- What the numbers so far give.
use Rattle.std.proofs.Common.{◌≡◌}
use Rattle.std.proofs.Common.{map}
use Rattle.manifest_text.specs.Values.{item_value}
use Rattle.suite_top.specs.Demo.{each_of, demo_item}
use Rattle.suite_top.proofs.demo_run.demo_items.Given as goal

abbrev pub invariant-loop-before : goal.invariant-loop-before
invariant-loop-before l = map item_value l.items.items ≡ each_of demo_item l.before
