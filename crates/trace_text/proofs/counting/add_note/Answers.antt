-- One more call.
use Rattle.std.proofs.Common.{◌++◌, ap, ◌∙◌}
use Rattle.std.specs.Prelude.{Option}
use Rattle.std.specs.Option.{option_to_list}
use Rattle.call_log.specs.Notes.{CallEntry}
use Rattle.call_log.specs.Values.{entry_value}
use Rattle.trace_text.specs.Counts.{tally}
use Rattle.trace_text.proofs.CountSteps.{tally_more}
use Rattle.trace_text.proofs.counting.add_note.Goals as goal

pub returns-in_ok-add : goal.returns-in_ok-add
returns-in_ok-add c = λ entries is.
    c.in_ok-add.ensures ∙ tally_more c.args.counts.now.entries entries (entry_value c.in-Some.entry.now) is
    ∙ ap (λ (call : Option CallEntry). tally (entries ++ option_to_list call)) c.in-Some.ensures
