-- The items' text is there too, or the command ends without it.
use Rattle.file_commands.specs.Load.{at_once}
use Rattle.file_commands.specs.Replay.{replay_ending}
use Rattle.file_commands.proofs.Replayed.{replays_text}
use Rattle.file_commands.proofs.replay.replay_items.Goals as goal

pub returns-in-Ok : goal.returns-in-Ok
returns-in-Ok g c =
    let ends = rw c.deref.ensures.value at c.replay_text.ensures in
    replays_text _ _ c.args.format c.args.program.now c.args.items.now _ _ c.in-Ok.ensures ends

pub returns-in-Err : goal.returns-in-Err
returns-in-Err g c = rw c.answer.ensures (c.in-Err.ensures (λ text more. at_once (replay_ending c.args.format c.args.program.now text)))
