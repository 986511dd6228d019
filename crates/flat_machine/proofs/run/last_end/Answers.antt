-- Whether any process may run.
use Rattle.std.proofs.Common.{length, sym, ap, ◌∙◌}
use Rattle.vfork_exec.specs.Procs.{ready}
use Rattle.flat_machine.proofs.Picks.{last_of_none, last_of_some}
use Rattle.flat_machine.proofs.run.last_end.Goals as goal

pub returns-then-runnable-eq0 : goal.returns-then-runnable-eq0
returns-then-runnable-eq0 c a =
    let v = c.parts.view_is in
    let count = c.runnable.ensures ∙ ap (λ p. length (ready p.kept.procs)) c.parts-inside.view_is in
    let tells = rw (← v) at (c.none_runs.ensures a) in
    rw (← v, last_of_none a c.parts.inside.kept (sym count ∙ c.if-runnable-eq0.true)) tells

pub returns-else-runnable-eq0 : goal.returns-else-runnable-eq0
returns-else-runnable-eq0 c a =
    let v = c.parts.view_is in
    let count = c.runnable.ensures ∙ ap (λ p. length (ready p.kept.procs)) c.parts-inside.view_is in
    rw (← v, last_of_some a c.parts.inside.kept (λ e. c.if-runnable-eq0.false (count ∙ e))) tt
