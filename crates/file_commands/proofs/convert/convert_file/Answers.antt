-- A file that was loaded is converted.
use Rattle.file_commands.specs.Convert.{converted_outcome}
use Rattle.file_commands.proofs.OneFileSteps.{performs_file}
use Rattle.file_commands.proofs.convert.convert_file.Goals as goal

pub returns-in-Ok : goal.returns-in-Ok
returns-in-Ok g c =
    performs_file c.args.elf.now (converted_outcome c.args.flt.now c.args.stack) _ _ _ _ _ c.in-Ok.ensures c.convert_bytes.ensures

pub returns-in-Err : goal.returns-in-Err
returns-in-Err g c = rw c.answer.ensures (c.in-Err.ensures (λ e inputs. converted_outcome c.args.flt.now c.args.stack e))
