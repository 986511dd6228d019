-- The items are read, or a line of their text isn't as it has to be.
use Rattle.items_text.specs.Values.{items_value}
use Rattle.file_commands.specs.declared.status.Status.TheVariants as status
use Rattle.file_commands.specs.Texts.{refused_line}
use Rattle.file_commands.specs.Texts.Replays.{items_tail}
use Rattle.file_commands.proofs.Lines.{ends_with_line}
use Rattle.file_commands.proofs.Replayed.{reads_items, refuses_items}
use Rattle.file_commands.proofs.replay.replay_text.Goals as goal

pub returns-in-Ok : goal.returns-in-Ok
returns-in-Ok c =
    reads_items c.args.format c.args.program.now c.args.text.now _ (items_value c.in-Ok.items) c.in-Ok.ensures.exact c.replay_program.ensures

pub returns-in-Err-At : goal.returns-in-Err-At
returns-in-Err-At c =
    let arm = c.in-Err-At in
    let is = rw arm.field-0-is at arm.ensures.exact in
    refuses_items c.args.format c.args.program.now c.args.text.now _ arm.line is
    (ends_with_line status.Refused c.refused_items.result (refused_line (items_tail arm.line)) _ (rw arm.field-0-is at c.refused_items.ensures) c.early.ensures)
