use Rattle.std.proofs.Common.{◌-◌, arith}
use Rattle.std.proofs.lemmas.Option.{slice_get-get_or}
use Rattle.page_runs.proofs.Changes.{joins_below, last_below, stays_below}
use Rattle.page_runs.proofs.Spacing.{run_at}
use Rattle.page_runs.proofs.edits.meets_below.Goals as goal

pub overflow_add-run : goal.overflow_add-run
overflow_add-run c =
    let there = slice_get-get_or c.args.runs.now (c.args.at - 1) (record { first = 0; count = 0 }) (omega arith) in
    let at = run_at 1 0 16385 c.args.runs.now (c.args.at - 1) _ c.requires.spaced there in
    omega arith

pub returns-then-at-eq0 : goal.returns-then-at-eq0
returns-then-at-eq0 c = rw c.if-at-eq0.true (stays_below 16385 c.args.runs.now 0 c.args.first c.requires.spaced (λ k r less is. absurd (omega arith)))

pub returns-then-run-first : goal.returns-then-run-first
returns-then-run-first c = joins_below 16385 c.args.runs.now c.args.at c.args.first _ (omega arith) (omega arith) c.if-run-first.true c.requires.spaced

pub returns-else-run-first : goal.returns-else-run-first
returns-else-run-first c = last_below 16385 c.args.runs.now c.args.at c.args.first _ (omega arith) (omega arith) c.requires.spaced c.if-run-first.false c.requires.before c.requires.taken
