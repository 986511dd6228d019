use Rattle.std.proofs.Common.{arith}
use Rattle.page_runs.specs.declared.place.Kind.TheVariants.{First}
use Rattle.page_runs.proofs.Searches.{first_found, none_fits, none_more}
use Rattle.page_runs.proofs.place.first_fit.Goals as goal

pub returns-then-runs-i : goal.returns-then-runs-i
returns-then-runs-i c = first_found c.args.runs.now c.args.need c.loop-i.i _ (omega arith) c.if-runs-i.true c.loop-i.invariant

pub loop-i-preserved : goal.loop-i-preserved
loop-i-preserved c = none_more c.args.runs.now c.args.need c.loop-i.i _ c.if-runs-i.false c.loop-i.invariant

pub returns : goal.returns
returns c = none_fits First c.args.runs.now c.args.need c.loop-i.i (omega arith) c.loop-i.invariant
