use Rattle.std.proofs.Common.{arith, ◌∙◌}
use Rattle.page_runs.specs.declared.place.Kind.TheVariants.{Best}
use Rattle.page_runs.proofs.Searches.{so_far_more, best_found, none_fits}
use Rattle.page_runs.proofs.place.best_fit.Goals as goal

pub loop-i-preserved : goal.loop-i-preserved
loop-i-preserved c = rw c.better-best.ensures (so_far_more c.args.runs.now c.args.need c.loop-i.i _ c.loop-i.best (omega arith) c.loop-i.invariant)

pub returns : goal.returns
returns c = let found = rw c.in_ok-i.was at c.loop-i.invariant in best_found c.args.runs.now c.args.need c.loop-i.i _ _ (omega arith) found

pub returns-in_err-i : goal.returns-in_err-i
returns-in_err-i c =
    let none = rw c.in_err-i.was at c.loop-i.invariant in
    c.from_residual.ensures ∙ none_fits Best c.args.runs.now c.args.need c.loop-i.i (omega arith) none
