-- By the events, one after the other, and by the start lines.
use Rattle.refusal_laws.proofs.Numbers.{events_give_numbers}
use Rattle.refusal_laws.proofs.NumberRuns.{turns_give_numbers, runs_give_numbers, runs_give_few_numbers}
use Rattle.refusal_laws.proofs.laws.numbers_law.Goals as goal

pub returns-clause-events : goal.returns-clause-events
returns-clause-events c = events_give_numbers

pub returns-clause-turns : goal.returns-clause-turns
returns-clause-turns c = turns_give_numbers

pub returns-clause-runs : goal.returns-clause-runs
returns-clause-runs c = runs_give_numbers

pub returns-clause-few : goal.returns-clause-few
returns-clause-few c = runs_give_few_numbers
