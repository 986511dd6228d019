-- By the two changes that an event makes.
use Rattle.machine_world.proofs.Beside.{events_leave_others}
use Rattle.machine_world.proofs.laws.others_law.Goals as goal

pub returns : goal.returns
returns c = events_leave_others
