-- Whether any process lives.
use Rattle.std.proofs.Common.{length, sym, ap, ◌∙◌}
use Rattle.flat_machine.proofs.Picks.{none_lives, some_live}
use Rattle.flat_machine.proofs.run.none_runs.Goals as goal

pub returns-then-live-eq0 : goal.returns-then-live-eq0
returns-then-live-eq0 c a =
    let v = c.parts.view_is in
    let count = c.live.ensures.count ∙ ap (λ p. length p.kept.procs.entries) c.parts-inside.view_is in
    rw (← v, none_lives a c.parts.inside.kept (sym count ∙ c.if-live-eq0.true)) tt

pub returns-else-live-eq0 : goal.returns-else-live-eq0
returns-else-live-eq0 c a =
    let v = c.parts.view_is in
    let count = c.live.ensures.count ∙ ap (λ p. length p.kept.procs.entries) c.parts-inside.view_is in
    rw (← v, some_live a c.parts.inside.kept (λ e. c.if-live-eq0.false (count ∙ e))) tt
