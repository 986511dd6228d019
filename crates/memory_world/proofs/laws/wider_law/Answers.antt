use Rattle.memory_world.proofs.Sub.{sent_sub}
use Rattle.memory_world.proofs.Widened.{wide_meaning}
use Rattle.memory_world.proofs.WideRuns.{wide_run, wide_put}
use Rattle.memory_world.proofs.laws.wider_law.Goals as goal

pub returns-clause-meaning : goal.returns-clause-meaning
returns-clause-meaning c = wide_meaning

pub returns-clause-instructions : goal.returns-clause-instructions
returns-clause-instructions c = wide_run

pub returns-clause-sent : goal.returns-clause-sent
returns-clause-sent c = λ own mem number args bytes is. sent_sub own mem number args bytes is

pub returns-clause-put : goal.returns-clause-put
returns-clause-put c = wide_put
