-- Who may run of the parts may run in the world.
use Rattle.std.proofs.Common.{ap, subst, ◌∙◌}
use Rattle.quantum_sched.specs.Picked.{picked}
use Rattle.vfork_exec.specs.Keyed.{Falls}
use Rattle.vfork_exec.specs.Procs.{pid_of, ready_pids}
use Rattle.flat_machine.proofs.Picks.{picked_can_run, picked_world}
use Rattle.flat_machine.proofs.run.chosen.Goals as goal

pub returns-clause-picked : goal.returns-clause-picked
returns-clause-picked c a =
    let v = c.parts.view_is in
    let live = ap (λ p. p.kept) c.parts-inside.view_is in
    rw (← v, ← live) (picked_world a _ c.args.quantum.pick c.pick.result c.pick.ensures.picked)

pub returns-clause-ready : goal.returns-clause-ready
returns-clause-ready c =
    let v = c.parts.view_is in
    let k = c.parts.inside.kept in
    let falls = subst (λ p. Falls pid_of p.kept.procs.next_pid p.kept.procs.entries) c.parts-inside.view_is c.parts-inside.invariant.0.0.falls in
    let is = c.pick.ensures.picked ∙ ap (λ p. picked c.args.quantum.pick (ready_pids p.kept.procs)) c.parts-inside.view_is in
    rw (← v) (picked_can_run k k.procs.next_pid falls c.args.quantum.pick c.pick.result is)
