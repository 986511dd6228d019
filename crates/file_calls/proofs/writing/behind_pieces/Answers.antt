-- Past the end of what was sent stands nothing.
use Rattle.std.proofs.Common.{◌∙◌, ◌*◌, ap, drop}
use Rattle.file_calls.proofs.Writes.{drop_up_to}
use Rattle.file_calls.proofs.writing.behind_pieces.Goals as goal

pub returns : goal.returns
returns c = c.split_at.ensures.back ∙ ap (λ k. drop k c.args.sent.now) c.min-start.ensures ∙ drop_up_to c.args.sent.now (8 * c.args.count)
