use Rattle.vfork_exec.proofs.Others.{others_stay, ended_stay}
use Rattle.vfork_exec.proofs.laws.others_law.Goals as goal

pub returns-clause-others : goal.returns-clause-others
returns-clause-others g c = others_stay g.row.P.Denot

pub returns-clause-ended : goal.returns-clause-ended
returns-clause-ended g c = ended_stay g.row.P.Denot
