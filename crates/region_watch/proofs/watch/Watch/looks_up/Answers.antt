-- An own range passes.
use Rattle.std.proofs.Common.{sym, ◌∙◌}
use Rattle.region_watch.proofs.Accesses.{range_passes}
use Rattle.region_watch.proofs.watch.Watch.looks_up.Goals as goal

pub returns-then-own-clause-answer : goal.returns-then-own-clause-answer
returns-then-own-clause-answer c = sym (range_passes _ _ _ _ _ (sym c.own.ensures ∙ c.if-own.true))
