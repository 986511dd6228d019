use Rattle.std.proofs.Common.{◌++◌, sym, ap, ◌∙◌}
use Rattle.flat_layout.specs.Layout.{layout}
use Rattle.elf2flt_tool.specs.Cover.{listed, lowest_met, recorded_of}
use Rattle.elf2flt_tool.specs.Walk.{recorded_before}
use Rattle.elf2flt_tool.proofs.Walked.{recorded-more}
use Rattle.elf2flt_tool.proofs.met.lower_in_entry.Goals as goal

pub returns : goal.returns
returns c =
    let e = c.args.walk.now in
    let i = c.args.section in
    let j = c.args.entry in
    c.lower_of.ensures (recorded_before e i j) c.requires.least
    ∙ ap (λ l. lowest_met c.args.cover.now (recorded_before e i j ++ recorded_of l (listed c.spans_at-spans.result))) (rw c.walk.view_is at c.walk.invariant.layout)
    ∙ ap (λ ss. lowest_met c.args.cover.now (recorded_before e i j ++ recorded_of (layout e) ss)) (rw c.walk.view_is at c.spans_at-spans.ensures)
    ∙ ap (lowest_met c.args.cover.now) (sym (recorded-more e i j))
