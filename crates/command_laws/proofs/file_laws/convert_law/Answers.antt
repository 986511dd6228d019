-- Each law by its proof over plain values.
use Rattle.command_laws.proofs.ConvertLaws.{convert_changes_one_file, convert_is_done, convert_is_refused, convert_completes}
use Rattle.file_commands.proofs.SizesLaw.{header_has_sizes}
use Rattle.command_laws.proofs.file_laws.convert_law.Goals as goal

pub returns : goal.returns
returns c = record { files = convert_changes_one_file; done = convert_is_done; refused = convert_is_refused; complete = convert_completes; header = header_has_sizes }
