-- Nothing is watched.
use Rattle.flat_machine.proofs.machine.Machine.run_repeated.Goals as goal

pub returns-clause-halts : goal.returns-clause-halts
returns-clause-halts g c halting = (c.run_repeated_watched.ensures.halts halting).runs

pub returns-clause-goes_on : goal.returns-clause-goes_on
returns-clause-goes_on g c go = (c.run_repeated_watched.ensures.goes_on go).runs

pub returns-clause-halted : goal.returns-clause-halted
returns-clause-halted g c = c.run_repeated_watched.ensures.halted.remains
