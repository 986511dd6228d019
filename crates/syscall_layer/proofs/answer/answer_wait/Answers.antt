-- The state of the process is another one, and nothing else.
use Rattle.std.proofs.Common.{refl, sym, ap, subst, ◌∙◌}
use Rattle.vfork_exec.specs.declared.family.State.TheVariants.{OnPipe}
use Rattle.vfork_exec.specs.Procs.{Listed, CanRun, with_wait_on}
use Rattle.machine_world.specs.Event.{waited}
use Rattle.kept_parts.specs.declared.task.Task.{Task}
use Rattle.kept_parts.specs.declared.served.Served.TheVariants.{Waits}
use Rattle.kept_parts.specs.Kept.{Kept}
use Rattle.kept_parts.specs.Inside.{kept_of}
use Rattle.kept_parts.specs.Regular.{Regular}
use Rattle.kept_parts.specs.Stands.{process_of, world_of}
use Rattle.kept_parts.specs.Serves.{Answered}
use Rattle.kept_parts.proofs.Common.RunningProcess.{runs_in}
use Rattle.kept_parts.proofs.Common.ProcessList.{can_run_lives}
use Rattle.kept_parts.proofs.Forks.Told.{regular_waiting, waits_serve}
use Rattle.syscall_layer.proofs.Leaves.{waits_now}
use Rattle.syscall_layer.proofs.answer.answer_wait.Goals as goal

pub invariant_of-parts : goal.invariant_of-parts
invariant_of-parts c =
    let k = kept_of c.parts.inside in
    let pid = c.args.call.now.pid in
    let ready = subst (λ (x : Kept). CanRun x.procs pid) (sym c.parts.view_is) c.requires in
    let r = runs_in k pid c.parts.invariant.0.0 (can_run_lives k.procs pid ready) in (
      (
        subst (λ (s : Listed Task). Regular (record k { procs = s })) (sym c.wait_on.ensures)
            (regular_waiting k pid r.0 (OnPipe c.args.pipe) refl c.parts.invariant.0.0 r.1.1.lives ready),
        c.parts.invariant.0.1,
      ),
      c.parts.invariant.1,
      c.parts.invariant.2,
    )

pub returns-clause-waits : goal.returns-clause-waits
returns-clause-waits c = λ a caller.
    let k = c.args.parts.now in
    let old = kept_of c.parts.inside in
    let pid = c.args.call.now.pid in
    let pipe = c.args.pipe in
    subst (λ (x : Kept). Answered a (waited (world_of a k) (process_of caller.entry) (OnPipe pipe)) k x pid Waits)
    (ap (λ (x : Kept). record x { procs = with_wait_on x.procs pid pipe }) (sym c.parts.view_is) ∙ (λ i. record old { procs = sym c.wait_on.ensures i }))
    (waits_serve a k pid caller.entry caller.runs.lives (OnPipe pipe))

pub returns-clause-leaves : goal.returns-clause-leaves
returns-clause-leaves c =
    let old = kept_of c.parts.inside in
    let pid = c.args.call.now.pid in
    let ready = subst (λ (x : Kept). CanRun x.procs pid) (sym c.parts.view_is) c.requires in
    (waits_now old.procs pid ready (OnPipe c.args.pipe) refl c.wait_on.new.self c.wait_on.ensures, ap (λ (x : Kept). x.files) c.parts.view_is, ap (λ (x : Kept). x.notes) c.parts.view_is)
