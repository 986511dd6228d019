use Rattle.std.proofs.Common.{◌-◌, length, arith}
use Rattle.page_runs.specs.declared.place.Kind.TheVariants.{Last}
use Rattle.page_runs.proofs.Searches.{last_found, none_fits, none_less}
use Rattle.page_runs.proofs.place.last_fit.Goals as goal

pub returns-then-need-runs : goal.returns-then-need-runs
returns-then-need-runs c = last_found c.args.runs.now c.args.need (c.loop-i.i - 1) _ (omega arith) c.if-need-runs.true
    (λ j other le is. c.loop-i.invariant.1 j other (omega arith) is)

pub loop-i-preserved : goal.loop-i-preserved
loop-i-preserved c = (
  omega arith,
  none_less c.args.runs.now c.args.need (c.loop-i.i - 1) _ c.if-need-runs.false
      (λ j other le is. c.loop-i.invariant.1 j other (omega arith) is),
)

pub returns : goal.returns
returns c = none_fits Last c.args.runs.now c.args.need (length c.args.runs.now) (omega arith) (λ j other less is. c.loop-i.invariant.1 j other (omega arith) is)
