-- By what each row and the end of a process leave.
use Rattle.machine_world.proofs.Aging.{events_age_files}
use Rattle.machine_world.proofs.laws.ages_law.Goals as goal

pub returns : goal.returns
returns c = events_age_files
