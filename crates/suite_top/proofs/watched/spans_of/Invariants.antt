-- The ranges of the watch lines so far.
use Rattle.std.proofs.Common.{◌≡◌, take, map}
use Rattle.suite_top.specs.Watched.{span_of}
use Rattle.suite_top.proofs.watched.spans_of.Given as goal

abbrev pub invariant-loop-watch : goal.invariant-loop-watch
invariant-loop-watch l = l.spans.items ≡ map span_of (take l.watch-index l.watches)
