-- The lines so far.
use Rattle.std.proofs.Common.{◌≡◌, ◌++◌, take, map}
use Rattle.std.specs.List.{flat_map}
use Rattle.items_text.specs.Values.{item_value}
use Rattle.items_text.specs.Lines.{item_line}
use Rattle.items_text.proofs.writing.push_list.Given as goal

abbrev pub invariant-loop-item : goal.invariant-loop-item
invariant-loop-item l = l.text.items ≡ l.fn.text.items ++ flat_map item_line (map item_value (take l.item-index l.list))
