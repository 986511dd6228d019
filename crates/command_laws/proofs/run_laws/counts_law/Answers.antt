-- What a run begins with is in order, and its turns keep it so, over private spaces and over one memory.
use Rattle.memory_world.specs.Physical.{opening_in}
use Rattle.memory_world.proofs.OrderIn.{openings_keep_order, runs_keep_order_in}
use Rattle.command_laws.proofs.BootedRuns.{begins_in_order, has_worlds_in_order}
use Rattle.command_laws.proofs.RunLaws.{reasonable}
use Rattle.command_laws.proofs.run_laws.counts_law.Goals as goal

pub returns-clause-worlds : goal.returns-clause-worlds
returns-clause-worlds c inputs name keep kind o = has_worlds_in_order (reasonable o) o.booted

pub returns-clause-memory : goal.returns-clause-memory
returns-clause-memory c inputs name keep kind o quanta =
    let b = o.booted in
    runs_keep_order_in quanta (opening_in b.brought.headers b.world) (openings_keep_order b.brought.headers b.world (begins_in_order (reasonable o) b))
