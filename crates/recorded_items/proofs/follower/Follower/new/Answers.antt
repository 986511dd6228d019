-- No call was made before the first note.
use Rattle.std.proofs.Common.{map, sym, ap, ◌∙◌}
use Rattle.flat_loader.specs.Frame.{texts}
use Rattle.items_text.specs.Values.{item_value}
use Rattle.recorded_items.specs.Recorded.{told_item}
use Rattle.recorded_items.proofs.Left.{with_first, left_first}
use Rattle.recorded_items.proofs.follower.Follower.new.Goals as goal

pub returns : goal.returns
returns c = record {
  members = c.new.ensures;
  items = ap (map item_value) c.new-2.ensures.items ∙ sym (ap (map told_item) (with_first c.args.space (texts c.args.lists.now)));
  lists = sym (left_first c.args.space (texts c.args.lists.now));
}
