-- By the events, one after the other.
use Rattle.machine_world.proofs.OrderBegins.{boots_begin_in_order}
use Rattle.machine_world.proofs.OrderKept.{events_keep_order, turns_keep_order, runs_keep_order}
use Rattle.machine_world.proofs.laws.counts_law.Goals as goal

pub returns-clause-boots : goal.returns-clause-boots
returns-clause-boots c = boots_begin_in_order

pub returns-clause-events : goal.returns-clause-events
returns-clause-events c = events_keep_order

pub returns-clause-turns : goal.returns-clause-turns
returns-clause-turns c = turns_keep_order

pub returns-clause-runs : goal.returns-clause-runs
returns-clause-runs c = runs_keep_order
