-- Behind the notes what is shown, and the word of each end that the code's end says.
use Rattle.std.proofs.Common.{◌≡◌, List, ℕ, ◌++◌, ap, ◌∙◌}
use Rattle.flat_machine.specs.State.{world}
use Rattle.suite_top.specs.Report.{stop_line}
use Rattle.suite_top.proofs.report.finished.Goals as goal

pub returns : goal.returns
returns c =
    let w = world c.args.machine.now in
    let word = c.stop_word.result.now in
    let text = c.extend_from_slice-2.new.self.items in
    let shown = c.args.shown.now in
    let is : text ≡ (c.args.notes.items ++ shown) ++ stop_line word w.events =
    cc (c.in_ok-stopped.ensures, c.events.ensures, c.as_bytes.ensures.value, c.as_bytes-2.ensures.value, c.in_ok-extend_from_slice.ensures.items, c.in_ok-extend_from_slice-2.ensures.items) in
    λ end ends. is ∙ ap (λ (said : List ℕ). (c.args.notes.items ++ shown) ++ stop_line said w.events) (c.stop_word.ensures end ends)
