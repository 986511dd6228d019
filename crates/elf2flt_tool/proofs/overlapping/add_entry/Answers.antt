use Rattle.std.proofs.Common.{◌∙◌, ◌++◌, sym, ap, ap₂, append-nil}
use Rattle.flat_layout.specs.Layout.{layout}
use Rattle.elf2flt_tool.specs.Faults.{entry_at}
use Rattle.elf2flt_tool.specs.Noted.{met_in}
use Rattle.elf2flt_tool.proofs.NotedSteps.{sound_bytes, refused_bytes}
use Rattle.elf2flt_tool.proofs.overlapping.add_entry.Goals as goal

pub returns-in_ok-push_some-in-Ok : goal.returns-in_ok-push_some-in-Ok
returns-in_ok-push_some-in-Ok c =
    let e = c.args.walk.now in
    let i = c.args.section in
    let j = c.args.entry in
    let is = rw c.walk.view_is at c.in-Ok.ensures in
    let laid = rw c.walk.view_is at c.walk.invariant.layout in
    c.in_ok-push_some-in-Ok.ensures
    ∙ ap (λ ws. c.args.met.now.items ++ ws)
    (c.met_in-word.ensures ∙ ap₂ (λ l ss. met_in l c.args.cover.now (entry_at i j) ss) laid (is.2 ∙ sym (sound_bytes e i j is.0)))

pub returns-in-Err : goal.returns-in-Err
returns-in-Err c =
    let e = c.args.walk.now in
    let i = c.args.section in
    let j = c.args.entry in
    let is = rw c.walk.view_is at c.in-Err.ensures in
    sym (append-nil c.args.met.now.items) ∙ ap (λ ss. c.args.met.now.items ++ met_in (layout e) c.args.cover.now (entry_at i j) ss) (sym (refused_bytes e i j _ is))
