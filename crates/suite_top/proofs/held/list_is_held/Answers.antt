-- Each is held that the loop sees.
use Rattle.std.proofs.Common.{arith}
use Rattle.items_text.specs.Items.{HoldsItem}
use Rattle.items_text.specs.Values.{item_value}
use Rattle.suite_top.proofs.Each.{of_none, of_one_more, of_all}
use Rattle.suite_top.proofs.held.list_is_held.Goals as goal

pub loop-item-init : goal.loop-item-init
loop-item-init c = of_none item_value HoldsItem c.args.list.now

pub loop-item-preserved : goal.loop-item-preserved
loop-item-preserved c = of_one_more item_value HoldsItem c.args.list.now c.loop-item.item-index c.item-item.result c.loop-item-test.true c.item-item.is c.item_is_held.ensures c.loop-item.invariant

pub returns : goal.returns
returns c = of_all item_value HoldsItem c.args.list.now c.loop-item.item-index (omega (arith, c.loop-item-test.false)) c.loop-item.invariant
