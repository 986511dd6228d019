-- The answer has the report, of whatever end is told.
use Rattle.std.proofs.Common.{ℕ, List, ap, ◌∙◌}
use Rattle.flat_machine.specs.State.{world}
use Rattle.suite_top.specs.Telling.{ending_with}
use Rattle.suite_top.proofs.told.reported.Goals as goal

pub returns : goal.returns
returns c =
    let w = world c.args.machine.now in
    λ end ends. c.ended_with.ensures w end ends ∙ ap (λ (text : List ℕ). ending_with text w end) (c.in_ok-report.ensures end ends)
