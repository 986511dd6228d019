-- The line has the numbers of the ELF file.
use Rattle.std.proofs.Common.{true}
use Rattle.file_commands.proofs.Conversions.{check_accepts}
use Rattle.file_commands.proofs.check.list_faults.Goals as goal

pub returns-in-Ok : goal.returns-in-Ok
returns-in-Ok c = check_accepts c.args.bytes.now true _ _ c.in-Ok.ensures.0 c.in-Ok.ensures.1 c.accept.ensures
