use Rattle.std.proofs.Common.{arith}
use Rattle.std.proofs.lemmas.Option.{slice_get-get_or}
use Rattle.page_runs.proofs.Changes.{joins_above, first_above}
use Rattle.page_runs.proofs.edits.meets_above.Goals as goal

pub returns-then-run-end : goal.returns-then-run-end
returns-then-run-end c = joins_above c.args.runs.now c.args.at c.args.end _ (omega arith) c.if-run-end.true

pub returns-else-run-end : goal.returns-else-run-end
returns-else-run-end c = first_above c.args.runs.now c.args.at c.args.end (record { first = 0; count = 0 }) (omega arith)
    (omega (arith, c.requires.after _ (slice_get-get_or c.args.runs.now c.args.at (record { first = 0; count = 0 }) (omega arith))))
