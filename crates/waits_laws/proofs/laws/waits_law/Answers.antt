-- At boot, and by each event, turn and run.
use Rattle.waits_laws.proofs.Boots.{boots_wait_well}
use Rattle.waits_laws.proofs.WaitRuns.{events_keep_waits, turns_keep_waits, runs_keep_waits}
use Rattle.waits_laws.proofs.Stuck.{stuck_runs_wait}
use Rattle.waits_laws.proofs.laws.waits_law.Goals as goal

pub returns-clause-boots : goal.returns-clause-boots
returns-clause-boots c = boots_wait_well

pub returns-clause-events : goal.returns-clause-events
returns-clause-events c = events_keep_waits

pub returns-clause-turns : goal.returns-clause-turns
returns-clause-turns c = turns_keep_waits

pub returns-clause-runs : goal.returns-clause-runs
returns-clause-runs c = runs_keep_waits

pub returns-clause-stuck : goal.returns-clause-stuck
returns-clause-stuck c = stuck_runs_wait
