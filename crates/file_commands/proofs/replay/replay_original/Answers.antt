-- There is a verdict, or the program isn't replayed.
use Rattle.items_text.specs.Values.{items_value}
use Rattle.replay_check.specs.Replays.{original_value, replayed}
use Rattle.file_commands.proofs.Replayed.{gives_verdict, refuses_replay}
use Rattle.file_commands.proofs.replay.replay_original.Goals as goal

pub returns-in-Ok : goal.returns-in-Ok
returns-in-Ok c =
    let i = items_value c.args.items.now in
    gives_verdict i (replayed (original_value c.args.original.now) i) _ _ c.in-Ok.ensures.replays c.tell.ensures

pub returns-in-Err : goal.returns-in-Err
returns-in-Err c =
    let i = items_value c.args.items.now in
    refuses_replay i (replayed (original_value c.args.original.now) i) c.in-Err.fault _ c.in-Err.ensures.replays c.refuse.ensures.ending c.refuse.ensures.memory
