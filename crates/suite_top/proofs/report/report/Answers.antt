-- The notes of the machine stand newest first in its world.
use Rattle.std.proofs.Common.{ap, ◌∙◌}
use Rattle.std.proofs.lemmas.Result.{IfOk-weaker}
use Rattle.flat_machine.specs.State.{world}
use Rattle.suite_top.specs.Report.{report_of}
use Rattle.suite_top.proofs.Reports.{loads_below, is_report}
use Rattle.suite_top.proofs.report.report.Goals as goal

pub notes_text-requires : goal.notes_text-requires
notes_text-requires c = loads_below (world c.args.machine.now) c.notes.result.now c.paths.result.now c.notes.ensures.notes c.paths.ensures c.notes.ensures.loaded

pub returns : goal.returns
returns c =
    let w = world c.args.machine.now in
    let shown = c.args.shown.now in
    IfOk-weaker c.finished.result _ _
    (λ text is end ends.
    is end ends
    ∙ ap (λ notes. report_of notes shown w end) c.in_ok-notes.ensures
    ∙ is_report w c.notes.result.now c.paths.result.now c.notes.ensures.notes c.paths.ensures c.args.log shown end) c.finished.ensures
