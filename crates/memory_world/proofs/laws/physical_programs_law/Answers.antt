use Rattle.memory_world.proofs.Growth.{events_leave_programs, turns_leave_programs, runs_leave_programs}
use Rattle.memory_world.proofs.laws.physical_programs_law.Goals as goal

pub returns-clause-events : goal.returns-clause-events
returns-clause-events c = events_leave_programs

pub returns-clause-turns : goal.returns-clause-turns
returns-clause-turns c = turns_leave_programs

pub returns-clause-runs : goal.returns-clause-runs
returns-clause-runs c = runs_leave_programs
