-- Each return is an answer of the row.
use Rattle.std.proofs.Common.{◌+◌, ◌*◌, ◌^◌, ◌∙◌, sym, ap, refl}
use Rattle.std.proofs.lemmas.Result.{err_from_is_err_and}
use Rattle.machine_world.specs.Asks.{refuses}
use Rattle.file_calls.proofs.Asked.{closed, is_open}
use Rattle.file_calls.proofs.Sought.{llseek_closed, llseek_other, llseek_whence, llseek_found}
use Rattle.file_calls.proofs.seeking.sought_at.Goals as goal

pub returns-in_err-view : goal.returns-in_err-view
returns-in_err-view c = λ a made same_tree same.
    let gone = closed _ _ _ c.view.ensures c.in_err-view.was in
    let says = err_from_is_err_and c.from_residual.result c.from_residual.ensures.1 in
    rw says.1 (llseek_closed _ _ a made same gone.0 ∙ ap (refuses a) (sym (says.2 ∙ gone.1)))

pub returns-in_default : goal.returns-in_default
returns-in_default c = λ a made same_tree same.
    llseek_other _ _ a made same c.in_ok-view.view (is_open _ _ _ c.view.ensures c.in_ok-view.was) _ refl c.in_default.not-Node

pub returns-in_default-base : goal.returns-in_default-base
returns-in_default-base c = λ a made same_tree same.
    llseek_whence _ _ a made same c.in_ok-view.view (is_open _ _ _ c.view.ensures c.in_ok-view.was) c.in-Node.node c.in-Node.is c.in_default-base.ensures

pub returns-in-Some-position_from : goal.returns-in-Some-position_from
returns-in-Some-position_from c = λ a made same_tree same.
    llseek_found _ _ a made same c.in_ok-view.view (is_open _ _ _ c.view.ensures c.in_ok-view.was) c.in-Node.node c.in-Node.is
    _ same_tree c.in-Some.base _ _ c.in-Some.ensures.0 c.in-Some.ensures.1 (λ i. c.from.ensures i * 2 ^ 32 + c.from-2.ensures i) c.in-Some-position_from.ensures

pub returns-in-None : goal.returns-in-None
returns-in-None c = λ a made same_tree same.
    llseek_found _ _ a made same c.in_ok-view.view (is_open _ _ _ c.view.ensures c.in_ok-view.was) c.in-Node.node c.in-Node.is
    _ same_tree c.in-Some.base _ _ c.in-Some.ensures.0 c.in-Some.ensures.1 (λ i. c.from.ensures i * 2 ^ 32 + c.from-2.ensures i) c.in-None.ensures
