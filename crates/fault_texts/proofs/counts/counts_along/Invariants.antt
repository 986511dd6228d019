-- The subjects so far.
use Rattle.std.proofs.Common.{◌≡◌}
use Rattle.fault_texts.specs.Counts.{counts_before}
use Rattle.fault_texts.proofs.counts.counts_along.Given as goal

abbrev pub invariant-loop-index : goal.invariant-loop-index
invariant-loop-index l = l.counts.items ≡ counts_before l.subjects l.index
