-- A file that was loaded is checked.
use Rattle.file_commands.specs.Check.{checked_outcome}
use Rattle.file_commands.proofs.OneFileSteps.{performs_file}
use Rattle.file_commands.proofs.Conversions.{checks}
use Rattle.file_commands.proofs.check.check_file.Goals as goal

pub returns-in-Ok : goal.returns-in-Ok
returns-in-Ok g c =
    performs_file c.args.elf.now (checked_outcome c.args.all) _ _ _ _ _ c.in-Ok.ensures (checks _ _ _ _ c.check_bytes.ensures)

pub returns-in-Err : goal.returns-in-Err
returns-in-Err g c = rw c.answer.ensures (c.in-Err.ensures (λ e inputs. checked_outcome c.args.all e))
