-- Each way in which the load ends.
use Rattle.file_commands.specs.declared.status.Status.TheVariants as status
use Rattle.file_commands.specs.Texts.{refused_line, cannot_read_line}
use Rattle.file_commands.specs.Texts.Refusals.{too_long_at}
use Rattle.file_commands.proofs.Lines.{ends_with_line}
use Rattle.file_commands.proofs.HostSteps.{gave_file, loads_too_long, fails_to_load, runs_out_at_load}
use Rattle.file_commands.proofs.file_load.load_limited.Goals as goal

pub returns-in-Ok-All : goal.returns-in-Ok-All
returns-in-Ok-All g c =
    let arm = c.in-Ok-All in
    let told = rw arm.field-0-is at arm.ensures.told in
    let cause = rw arm.field-0-is at arm.ensures.cause in
    gave_file _ _ _ c.args.name.now _ told cause arm.ensures.limit

pub returns-in-Ok-TooLong : goal.returns-in-Ok-TooLong
returns-in-Ok-TooLong g c rest =
    let arm = c.in-Ok-TooLong in
    let told = rw arm.field-0-is at arm.ensures.told in
    let cause = rw arm.field-0-is at arm.ensures.cause in
    loads_too_long c.args.limit c.args.line c.args.name.now rest _ _ _ _ told cause
    (ends_with_line status.Refused c.refused_too_long-text.result (refused_line (too_long_at c.args.line)) _ c.refused_too_long-text.ensures c.early.ensures)

pub returns-in-Err-Failed : goal.returns-in-Err-Failed
returns-in-Err-Failed g c rest =
    let arm = c.in-Err-Failed in
    let told = rw arm.field-0-is at arm.ensures.told in
    let cause = rw arm.field-0-is at arm.ensures.cause in
    fails_to_load c.args.limit c.args.line c.args.name.now rest _ _ _ _ told cause
    (ends_with_line status.HostRead c.cannot_read-text.result (cannot_read_line c.args.name.now) _ c.cannot_read-text.ensures c.early-in-Err-Failed.ensures)

pub returns : goal.returns
returns g c rest =
    let arm = c.in-Err-Memory in
    let told = rw arm.field-0-is at arm.ensures.told in
    let cause = rw arm.field-0-is at arm.ensures.cause in
    runs_out_at_load c.args.limit c.args.line c.args.name.now rest _ _ _ told cause
