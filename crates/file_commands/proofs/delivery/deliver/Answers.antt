-- Where the delivery ended, by the text that was being written.
use Rattle.std.proofs.Common.{refl}
use Rattle.file_commands.specs.Delivery.{stopped_at_out, stopped_at_report}
use Rattle.file_commands.proofs.delivery.deliver.Goals as goal

pub returns-in-Err : goal.returns-in-Err
returns-in-Err g c = let stop = c.in-Err.ensures in (stopped_at_out stop.0, (stop.1, refl, stop.2))

pub returns-in-Err-write_text : goal.returns-in-Err-write_text
returns-in-Err-write_text g c = let stop = c.in-Err-write_text.ensures in (stopped_at_report stop.0, (c.in_default.ensures, stop.1, stop.2))
