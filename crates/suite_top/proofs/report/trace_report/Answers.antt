-- The notes of the machine stand newest first in its world.
use Rattle.std.proofs.Common.{length, map, ap, ◌∙◌}
use Rattle.std.proofs.lemmas.Result.{IfOk-weaker}
use Rattle.call_log.specs.Values.{note_value}
use Rattle.flat_machine.specs.State.{world}
use Rattle.suite_top.specs.Report.{report_of}
use Rattle.suite_top.proofs.Reports.{loads_below, loaded_below, is_trace_report}
use Rattle.suite_top.proofs.report.trace_report.Goals as goal

pub trace_texts-requires : goal.trace_texts-requires
trace_texts-requires c =
    loaded_below (length c.paths.result.now) (map note_value c.notes.result.now)
    (loads_below (world c.args.machine.now) c.notes.result.now c.paths.result.now c.notes.ensures.notes c.paths.ensures c.notes.ensures.loaded)

pub returns : goal.returns
returns c =
    let w = world c.args.machine.now in
    let shown = c.args.shown.now in
    IfOk-weaker c.finished.result _ _
    (λ text is end ends.
    is end ends
    ∙ ap (λ notes. report_of notes shown w end) c.in_ok-notes.ensures
    ∙ is_trace_report w c.notes.result.now c.paths.result.now c.notes.ensures.notes c.paths.ensures c.args.pid c.args.counted shown end) c.finished.ensures
