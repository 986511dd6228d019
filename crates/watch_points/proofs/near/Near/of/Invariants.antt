-- The spans so far lie between the bounds, and reach them.
use Rattle.watch_points.proofs.Spans.{Bounds}
use Rattle.watch_points.proofs.near.Near.of.Given as goal

abbrev pub invariant-loop-span : goal.invariant-loop-span
invariant-loop-span l = Bounds l.spans l.span-index l.low l.top
