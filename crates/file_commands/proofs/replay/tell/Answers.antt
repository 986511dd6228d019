-- The line of a yes has the number of all items.
use Rattle.std.proofs.Common.{◌∙◌}
use Rattle.file_commands.proofs.Replayed.{yes_is_told}
use Rattle.file_commands.proofs.replay.tell.Goals as goal

pub returns-in_ok-line-in-Yes : goal.returns-in_ok-line-in-Yes
returns-in_ok-line-in-Yes c = rw c.in-Yes.is (yes_is_told c.args.items.now _ _ _ (c.len.ensures ∙ c.args.items.now.list.ok.0) c.in_ok-line-in-Yes.ensures c.done.ensures)
