-- An image that was loaded is listed.
use Rattle.file_commands.specs.Unromfs.{unmade_outcome}
use Rattle.file_commands.proofs.OneFileSteps.{performs_file}
use Rattle.file_commands.proofs.Unmade.{unmakes}
use Rattle.file_commands.proofs.unromfs.unromfs_file.Goals as goal

pub returns-in-Ok : goal.returns-in-Ok
returns-in-Ok g c =
    let ends = rw c.deref.ensures.value at c.unromfs_bytes.ensures in
    performs_file c.args.image.now unmade_outcome _ _ _ _ _ c.in-Ok.ensures (unmakes _ _ _ ends)

pub returns-in-Err : goal.returns-in-Err
returns-in-Err g c = rw c.answer.ensures (c.in-Err.ensures (λ e inputs. unmade_outcome e))
