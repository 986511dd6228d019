use Rattle.std.proofs.Common.{arith, ◌∙◌}
use Rattle.std.proofs.lemmas.Option.{slice_get_read}
use Rattle.page_runs.proofs.Changes.{cut_whole, cut_part}
use Rattle.page_runs.proofs.Spacing.{run_at}
use Rattle.page_runs.proofs.edits.cut_front.Goals as goal

pub overflow_add-run : goal.overflow_add-run
overflow_add-run c =
    let there = slice_get_read c.args.runs.now.items _ c.args.i c.index-run.result.now c.args.runs.now.ok.0 c.requires.bound c.index-run.ensures in
    let at = run_at 1 0 16385 c.args.runs.now.items c.args.i _ c.requires.spaced there in
    omega (arith, c.requires.fits _ there)

pub overflow_sub-run : goal.overflow_sub-run
overflow_sub-run c =
    let there = slice_get_read c.args.runs.now.items _ c.args.i c.index-run.result.now c.args.runs.now.ok.0 c.requires.bound c.index-run.ensures in
    omega (arith, c.requires.fits _ there)

pub returns-then-run-need-clause-first : goal.returns-then-run-need-clause-first
returns-then-run-need-clause-first c =
    let there = slice_get_read c.args.runs.now.items _ c.args.i c.index-run.result.now c.args.runs.now.ok.0 c.requires.bound c.index-run.ensures in
    rw there

pub returns-else-run-need-clause-first : goal.returns-else-run-need-clause-first
returns-else-run-need-clause-first c =
    let there = slice_get_read c.args.runs.now.items _ c.args.i c.index-run.result.now c.args.runs.now.ok.0 c.requires.bound c.index-run.ensures in
    rw there

pub returns-then-run-need-clause-items : goal.returns-then-run-need-clause-items
returns-then-run-need-clause-items c =
    let there = slice_get_read c.args.runs.now.items _ c.args.i c.index-run.result.now c.args.runs.now.ok.0 c.requires.bound c.index-run.ensures in
    c.remove.ensures.items ∙ cut_whole c.args.runs.now.items c.args.i c.args.need c.index-run.result.now there c.if-run-need.true

pub returns-else-run-need-clause-items : goal.returns-else-run-need-clause-items
returns-else-run-need-clause-items c =
    let there = slice_get_read c.args.runs.now.items _ c.args.i c.index-run.result.now c.args.runs.now.ok.0 c.requires.bound c.index-run.ensures in
    cut_part c.args.runs.now.items c.args.i c.args.need c.index-run.result.now there c.if-run-need.false
