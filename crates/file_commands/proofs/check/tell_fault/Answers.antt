-- The line has the numbers of the ELF file.
use Rattle.std.proofs.Common.{false}
use Rattle.file_commands.proofs.Conversions.{check_accepts}
use Rattle.file_commands.proofs.check.tell_fault.Goals as goal

pub returns-in-Ok : goal.returns-in-Ok
returns-in-Ok c = check_accepts c.args.bytes.items false _ _ c.in-Ok.ensures.0 c.in-Ok.ensures.1 c.accept.ensures
