-- The number that was read is the one that is spelled, if its first digit isn't 0.
use Rattle.std.proofs.Common.{sym, ◌∙◌, arith}
use Rattle.file_commands.proofs.SpelledNumbers.{none_started, reads_number, reads_none}
use Rattle.file_commands.proofs.arguments.read_number.Goals as goal

pub returns-then-not-starts_well : goal.returns-then-not-starts_well
returns-then-not-starts_well c = sym (none_started c.args.least c.args.most (omega arith) c.requires c.args.text.now c.starts_well.result c.starts_well.ensures c.if-not-starts_well.true)

pub returns-in-Ok : goal.returns-in-Ok
returns-in-Ok c =
    let fits = sym c.is_between.ensures ∙ c.if-is_between.true in
    sym (reads_number c.args.least c.args.most (omega arith) _ c.args.text.now c.starts_well.result c.starts_well.ensures c.if-not-starts_well.false c.in-Ok.number c.parse.result c.parse.ensures.value.0 c.in-Ok.is fits)

pub returns-in-Err : goal.returns-in-Err
returns-in-Err c =
    let parsed = rw c.in-Err.is at c.parse.ensures.value.0 in
    sym (reads_none c.args.least c.args.most (omega arith) _ c.args.text.now c.starts_well.result c.starts_well.ensures c.if-not-starts_well.false c.in-Err.field-0 parsed)
