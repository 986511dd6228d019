-- The process still lives, with what was kept of it.
use Rattle.std.proofs.Common.{◌≡◌, Some, sym, ap, subst, ◌∙◌}
use Rattle.std.proofs.lemmas.Option.{same_Some}
use Rattle.vfork_exec.specs.Procs.{Listed, Lives, value_at, with_value_at}
use Rattle.kept_parts.specs.declared.task.Task.{Task}
use Rattle.kept_parts.proofs.Execs.Regular.{value_freed, lives_freed}
use Rattle.kept_parts.proofs.exec.switch.Goals as goal

pub get_mut-task-requires : goal.get_mut-task-requires
get_mut-task-requires c =
    let pid = c.args.pid in
    subst (λ (s : Listed Task). Lives s pid) (sym c.exec_done.ensures) (lives_freed c.args.procs.now pid pid c.requires)

pub returns : goal.returns
returns c = λ t kept.
    let pid = c.args.pid in
    let old = c.args.procs.now in
    let now : value_at c.exec_done.new.self pid ≡ Some t = ap (λ (s : Listed Task). value_at s pid) c.exec_done.ensures ∙ value_freed old pid pid ∙ kept in
    let same : c.get_mut-task.result.now ≡ t = same_Some _ _ (sym c.get_mut-task.ensures.value ∙ now) in
    λ i. with_value_at (c.exec_done.ensures i) pid (record (same i) { regs = c.args.regs; space = c.args.space })
