-- By what is said of each run, and of its one memory by the laws of refusals.
use Rattle.std.proofs.Common.{map}
use Rattle.memory_world.specs.Physical.{opening_in}
use Rattle.refusals_in_memory.proofs.StaysRegular.{boots_are_regular_in, runs_keep_regular_in}
use Rattle.suite_top.specs.Run.{start_line, opening}
use Rattle.command_laws.proofs.BootedRuns.{can_boot, few_starts, closed, has_regular_worlds}
use Rattle.command_laws.proofs.RunLaws.{reasonable}
use Rattle.command_laws.proofs.run_laws.regular_worlds_law.Goals as goal

pub returns-clause-worlds : goal.returns-clause-worlds
returns-clause-worlds c inputs name keep kind o = has_regular_worlds (reasonable o) o.booted

pub returns-clause-memory : goal.returns-clause-memory
returns-clause-memory c inputs name keep kind o quanta =
    let is = reasonable o in
    let b = o.booted in
    let headers = b.brought.headers in
    runs_keep_regular_in quanta (opening_in headers b.world)
    (boots_are_regular_in (opening keep kind o.manifest b.brought) (map start_line o.manifest.starts) b.world headers (can_boot is b) (closed is b) (few_starts is b) b.boots)
