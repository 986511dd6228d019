-- The places so far.
use Rattle.std.proofs.Common.{◌≡◌, None, replicate}
use Rattle.fault_texts.proofs.sights.no_tables.Given as goal

abbrev pub invariant-loop-index : goal.invariant-loop-index
invariant-loop-index l = l.tables.items ≡ replicate l._index None
