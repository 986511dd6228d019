-- The lowest address and the highest bound each span, and some spans reach them.
use Rattle.std.proofs.Common.{arith}
use Rattle.std.specs.Prelude.{get_or}
use Rattle.std.proofs.lemmas.Option.{slice_get_within, slice_get-get_or}
use Rattle.watch_points.proofs.Spans.{covers, has_bounds, bounds_more}
use Rattle.watch_points.proofs.near.Near.of.Goals as goal

pub returns-clause-near : goal.returns-clause-near
returns-clause-near c = covers c.args.spans.now (record { low = c.saturating_sub-low.result; last = c.saturating_sub.result }) c.loop-span.low c.loop-span.top
    (λ j span there. c.loop-span.invariant.0 j span (omega (arith, c.loop-span-test.false, slice_get_within c.args.spans.now j span there)) there)
    c.saturating_sub-low.ensures c.saturating_sub.ensures

pub returns-clause-bounds : goal.returns-clause-bounds
returns-clause-bounds c = has_bounds c.args.spans.now (record { low = c.saturating_sub-low.result; last = c.saturating_sub.result }) c.loop-span.low c.loop-span.top c.requires
    (λ j span there. c.loop-span.invariant.0 j span (omega (arith, c.loop-span-test.false, slice_get_within c.args.spans.now j span there)) there)
    (λ some. c.loop-span.invariant.1 (omega (arith, c.loop-span-test.false, some)))
    c.saturating_sub-low.ensures c.saturating_sub.ensures

pub loop-span-preserved : goal.loop-span-preserved
loop-span-preserved c =
    bounds_more c.args.spans.now c.loop-span.span-index c.loop-span.low c.loop-span.top c.min-low.result c.max-top.result (get_or c.args.spans.now c.loop-span.span-index (record { addr = 0; len = 0 }))
    c.requires (slice_get-get_or c.args.spans.now c.loop-span.span-index (record { addr = 0; len = 0 }) c.loop-span-test.true) c.loop-span.invariant c.min-low.ensures c.max-top.ensures
