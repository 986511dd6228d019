use Rattle.std.proofs.Common.{◌≡◌, ◌∙◌, sym, ap, subst, arith}
use Rattle.elf32_reader.specs.Header.{count_of}
use Rattle.flat_layout.specs.Layout.{layout}
use Rattle.flat_layout.proofs.Facts.{size_le}
use Rattle.elf2flt_tool.specs.Noted.{IsNoted, entries_before}
use Rattle.elf2flt_tool.proofs.NotedSteps.{noted_none, entries-other, entries-all}
use Rattle.elf2flt_tool.proofs.noting.note_all.Goals as goal
use Rattle.elf2flt_tool.proofs.noting.note_all.Goals.{then-kept+in_ok-note_section, else-kept}

pub overflow_add-layout : goal.overflow_add-layout
overflow_add-layout c =
    let small = size_le c.walk.inside.elf.now c.walk.invariant.numbers in
    rw c.walk.invariant.layout (omega arith)

pub loop-section-init : goal.loop-section-init
loop-section-init c =
    noted_none c.args.walk.now _ c.requires c.new-outside.ensures.items
    (rw (c.walk.invariant.layout, c.walk.view_is) at (c.new-cover.ensures (layout c.walk.inside.elf.now)))

pub loop-section-preserved : goal.loop-section-preserved
loop-section-preserved c =
    let e = c.args.walk.now in
    let i = c.loop-section.section in
    elim c.if-kept.branch [
      | then-kept+in_ok-note_section w ↦ rw w.noted-is w.in_ok-note_section.ensures
      | else-kept w ↦ (
          let other = rw c.walk.view_is at (sym c.kept.ensures ∙ w.if-kept.false) in
          rw w.noted-is (subst (λ xs. IsNoted e xs c.loop-section.noted) (entries-other e i other) c.loop-section.invariant))
    ]

pub returns : goal.returns
returns c =
    let e = c.args.walk.now in
    let count = rw c.walk.view_is at c.sections-section-end.ensures.count in
    let all : c.loop-section.section ≡ count_of e = omega (arith, count) in
    subst (λ xs. IsNoted e xs c.loop-section.noted) (ap (λ i. entries_before e i 0) all ∙ entries-all e) c.loop-section.invariant
