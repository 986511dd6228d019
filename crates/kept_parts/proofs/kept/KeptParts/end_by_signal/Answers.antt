-- Behind the end those go on that wait on a pipe of which an end closes.
use Rattle.std.proofs.Common.{sym, ap, subst, ◌∙◌}
use Rattle.std.proofs.lemmas.Result.{err_from_is_err_and}
use Rattle.machine_world.specs.Event.{Outcome, at_process, trapped}
use Rattle.kept_parts.specs.Kept.{Kept}
use Rattle.kept_parts.specs.Stands.{world_of}
use Rattle.kept_parts.specs.Serves.{Died}
use Rattle.kept_parts.proofs.Common.AnyRun.{some_about}
use Rattle.kept_parts.proofs.Replies.Wakes.{died_settled, settled_dies}
use Rattle.kept_parts.proofs.Replies.InMemory.{ending_in}
use Rattle.kept_parts.proofs.kept.KeptParts.end_by_signal.Goals as goal

pub returns-in_err-die-clause-dies : goal.returns-in_err-die-clause-dies
returns-in_err-die-clause-dies c = λ a.
    let p = err_from_is_err_and c.from_residual.result c.from_residual.ensures.1 in
    rw p.1 (c.in_err-die.ensures.dies a)

pub returns-clause-dies : goal.returns-clause-dies
returns-clause-dies c = λ a.
    let w = world_of a c.args.self.now in
    let pid = c.args.pid in
    let signal = c.args.signal in
    let mid = c.die.new.self in
    let new = c.wake_changed.new.self in
    subst (λ (o : Outcome). Died a o new pid) (sym (died_settled w pid signal))
    (settled_dies a pid mid new c.wake_changed.ensures.kept (at_process w pid (λ p s. trapped w p signal)) (c.in_ok-die.ensures.dies a))

pub returns-in_err-die-clause-memory : goal.returns-in_err-die-clause-memory
returns-in_err-die-clause-memory c = λ headers a.
    let p = err_from_is_err_and c.from_residual.result c.from_residual.ensures.1 in
    rw p.1 (c.in_err-die.ensures.dies a)

pub returns-clause-memory : goal.returns-clause-memory
returns-clause-memory c = λ headers a.
    ending_in headers a c.args.pid c.die.new.self c.wake_changed.new.self c.wake_changed.ensures.kept c.args.self.now c.args.signal c.in_ok-die.ensures.memory (c.in_ok-die.ensures.dies a)

pub returns-in_err-die-clause-marks : goal.returns-in_err-die-clause-marks
returns-in_err-die-clause-marks c = λ none. ap (λ (k : Kept). k.files.changed) (c.in_err-die.ensures.dies some_about) ∙ none
