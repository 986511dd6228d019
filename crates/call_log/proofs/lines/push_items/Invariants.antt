-- The items so far.
use Rattle.std.proofs.Common.{◌≡◌, ◌++◌, take, map}
use Rattle.std.specs.List.{flat_map}
use Rattle.call_log.specs.Values.{got_value}
use Rattle.call_log.specs.Lines.{item_text}
use Rattle.call_log.proofs.lines.push_items.Given as goal

abbrev pub invariant-loop-item : goal.invariant-loop-item
invariant-loop-item l = l.text.items ≡ l.fn.text.items ++ flat_map item_text (map got_value (take l.item-index l.got))
