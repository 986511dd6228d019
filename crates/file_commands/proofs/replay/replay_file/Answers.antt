-- The program's file is there, or the command ends without it.
use Rattle.std.proofs.Common.{None}
use Rattle.file_commands.specs.OneFile.{file_limit}
use Rattle.file_commands.specs.Replay.{loaded_outcome, replay_outcome}
use Rattle.file_commands.proofs.HostSteps.{performs_rest}
use Rattle.file_commands.proofs.replay.replay_file.Goals as goal

pub returns-in-Ok : goal.returns-in-Ok
unfolding replay_outcome
returns-in-Ok g c =
    let performs = rw c.deref.ensures.value at c.replay_items.ensures in
    performs_rest file_limit None c.args.file.now (λ program. loaded_outcome c.args.format program c.args.items.now) _ _ _ _ _ c.in-Ok.ensures performs

pub returns-in-Err : goal.returns-in-Err
unfolding replay_outcome
returns-in-Err g c = rw c.answer.ensures (c.in-Err.ensures (λ program. loaded_outcome c.args.format program c.args.items.now))
