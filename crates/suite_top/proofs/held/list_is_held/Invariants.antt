-- What the loop has seen is held.
use Rattle.items_text.specs.Items.{HoldsItem}
use Rattle.items_text.specs.Values.{item_value}
use Rattle.suite_top.proofs.Each.{OfFirst}
use Rattle.suite_top.proofs.held.list_is_held.Given as goal

abbrev pub invariant-loop-item : goal.invariant-loop-item
invariant-loop-item l = OfFirst item_value HoldsItem l.item-index l.fn.list
