-- The process that is picked can run.
use Rattle.std.proofs.Common.{ap, subst, ◌∙◌}
use Rattle.quantum_sched.specs.Picked.{picked}
use Rattle.vfork_exec.specs.Keyed.{Falls}
use Rattle.vfork_exec.specs.Procs.{pid_of, ready_pids}
use Rattle.flat_machine.proofs.Picks.{picked_can_run}
use Rattle.machine_tests.proofs.tests.noted.ready.Goals as goal

pub returns : goal.returns
returns c =
    let v = c.parts.view_is in
    let k = c.parts.inside.kept in
    let falls = subst (λ p. Falls pid_of p.kept.procs.next_pid p.kept.procs.entries) c.parts-inside.view_is c.parts-inside.invariant.0.0.falls in
    let is = c.pick.ensures.picked ∙ ap (λ p. picked 0 (ready_pids p.kept.procs)) c.parts-inside.view_is in
    rw (← v) (picked_can_run k k.procs.next_pid falls 0 c.pick.result is)
