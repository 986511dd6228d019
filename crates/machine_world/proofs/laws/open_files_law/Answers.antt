-- By the events, one after the other.
use Rattle.machine_world.proofs.CountedBoots.{boots_begin_counted}
use Rattle.machine_world.proofs.CountedKept.{events_keep_counted, turns_keep_counted, runs_keep_counted}
use Rattle.machine_world.proofs.laws.open_files_law.Goals as goal

pub returns-clause-boots : goal.returns-clause-boots
returns-clause-boots c = boots_begin_counted

pub returns-clause-events : goal.returns-clause-events
returns-clause-events c = events_keep_counted

pub returns-clause-turns : goal.returns-clause-turns
returns-clause-turns c = turns_keep_counted

pub returns-clause-runs : goal.returns-clause-runs
returns-clause-runs c = runs_keep_counted
