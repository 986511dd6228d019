-- The flat file has no fault.
use Rattle.items_text.specs.Values.{items_value}
use Rattle.file_commands.proofs.Replayed.{accepts_flat}
use Rattle.file_commands.proofs.replay.replay_flat.Goals as goal

pub returns-in-Ok : goal.returns-in-Ok
returns-in-Ok c = accepts_flat c.args.program.now (items_value c.args.items.now) _ _ c.in-Ok.ensures.0 c.in-Ok.ensures.1 c.replay_original.ensures
