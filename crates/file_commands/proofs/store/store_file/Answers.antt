-- Each way in which the store ends, as a course.
use Rattle.file_commands.specs.declared.status.Status.TheVariants as status
use Rattle.file_commands.specs.Texts.{cannot_write_line}
use Rattle.file_commands.proofs.Lines.{ends_with_line}
use Rattle.file_commands.proofs.HostSteps.{stores, fails_to_store, runs_out_at_store}
use Rattle.std.proofs.Common.{refl}
use Rattle.file_commands.proofs.store.store_file.Goals as goal

pub returns-in-Ok : goal.returns-in-Ok
returns-in-Ok g c =
    let told = rw c.in-Ok.is at c.store.ensures.told in
    let cause = rw c.in-Ok.is at c.store.ensures.cause in
    stores _ _ _ _ _ c.requires told cause

pub returns-in-Err-Failed : goal.returns-in-Err-Failed
returns-in-Err-Failed g c =
    let told = rw c.in-Err-Failed.field-0-is at c.in-Err-Failed.ensures.told in
    let cause = rw c.in-Err-Failed.field-0-is at c.in-Err-Failed.ensures.cause in
    fails_to_store _ _ _ _ _ _ told cause (ends_with_line status.HostWrite c.cannot_write.result (cannot_write_line c.args.name.now) _ c.cannot_write.ensures c.early.ensures)

pub returns : goal.returns
returns g c =
    let told = rw c.in-Err-Memory.field-0-is at c.in-Err-Memory.ensures.told in
    let cause = rw c.in-Err-Memory.field-0-is at c.in-Err-Memory.ensures.cause in
    runs_out_at_store _ _ _ _ _ _ told cause refl
