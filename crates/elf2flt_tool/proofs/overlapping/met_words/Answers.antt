use Rattle.std.proofs.Common.{◌≡◌, ◌∙◌, flat_map, sym, ap, arith}
use Rattle.elf32_reader.specs.Header.{count_of}
use Rattle.elf2flt_tool.specs.Noted.{entries_before, met_by}
use Rattle.elf2flt_tool.proofs.NotedSteps.{entries-other, entries-all}
use Rattle.elf2flt_tool.proofs.overlapping.met_words.Goals as goal
use Rattle.elf2flt_tool.proofs.overlapping.met_words.Goals.{then-kept+in_ok-add_section, else-kept}

pub loop-section-init : goal.loop-section-init
loop-section-init c = c.new-met.ensures.items

pub loop-section-preserved : goal.loop-section-preserved
loop-section-preserved c =
    let e = c.args.walk.now in
    let i = c.loop-section.section in
    elim c.if-kept.branch [
      | then-kept+in_ok-add_section w ↦ rw w.met-is w.in_ok-add_section.ensures
      | else-kept w ↦ (
          let other = rw c.walk.view_is at (sym c.kept.ensures ∙ w.if-kept.false) in
          rw w.met-is (c.loop-section.invariant ∙ ap (flat_map (met_by e c.args.cover.now)) (entries-other e i other)))
    ]

pub returns : goal.returns
returns c =
    let e = c.args.walk.now in
    let count = rw c.walk.view_is at c.sections-section-end.ensures.count in
    let all : c.loop-section.section ≡ count_of e = omega (arith, count) in
    c.loop-section.invariant ∙ ap (flat_map (met_by e c.args.cover.now)) (ap (λ i. entries_before e i 0) all ∙ entries-all e)
