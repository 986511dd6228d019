use Rattle.memory_world.proofs.OrderIn.{openings_keep_order, events_keep_order_in, turns_keep_order_in, runs_keep_order_in}
use Rattle.memory_world.proofs.laws.counts_in_memory_law.Goals as goal

pub returns-clause-openings : goal.returns-clause-openings
returns-clause-openings c = openings_keep_order

pub returns-clause-events : goal.returns-clause-events
returns-clause-events c = events_keep_order_in

pub returns-clause-turns : goal.returns-clause-turns
returns-clause-turns c = turns_keep_order_in

pub returns-clause-runs : goal.returns-clause-runs
returns-clause-runs c = runs_keep_order_in
