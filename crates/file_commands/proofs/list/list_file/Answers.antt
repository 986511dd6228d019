-- A file that was loaded is listed.
use Rattle.file_commands.specs.List.{listed_outcome}
use Rattle.file_commands.proofs.OneFileSteps.{performs_file}
use Rattle.file_commands.proofs.Listed.{lists}
use Rattle.file_commands.proofs.list.list_file.Goals as goal

pub returns-in-Ok : goal.returns-in-Ok
returns-in-Ok g c =
    let ends = rw c.deref.ensures.value at c.list_bytes.ensures in
    performs_file c.args.flt.now listed_outcome _ _ _ _ _ c.in-Ok.ensures (lists _ _ _ ends)

pub returns-in-Err : goal.returns-in-Err
returns-in-Err g c = rw c.answer.ensures (c.in-Err.ensures (λ e inputs. listed_outcome e))
