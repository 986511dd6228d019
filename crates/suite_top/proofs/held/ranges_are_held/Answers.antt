-- Each is held that the loop sees.
use Rattle.std.proofs.Common.{arith}
use Rattle.call_log.specs.Values.{got_value}
use Rattle.items_text.specs.Items.{HoldsGot}
use Rattle.suite_top.proofs.Each.{of_none, of_one_more, of_all}
use Rattle.suite_top.proofs.held.ranges_are_held.Goals as goal

pub loop-range-init : goal.loop-range-init
loop-range-init c = of_none got_value HoldsGot c.args.ranges.now

pub loop-range-preserved : goal.loop-range-preserved
loop-range-preserved c = of_one_more got_value HoldsGot c.args.ranges.now c.loop-range.range-index c.range-item.result c.loop-range-test.true c.range-item.is c.range_is_held.ensures c.loop-range.invariant

pub returns : goal.returns
returns c = of_all got_value HoldsGot c.args.ranges.now c.loop-range.range-index (omega (arith, c.loop-range-test.false)) c.loop-range.invariant
