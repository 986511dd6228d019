use Rattle.std.proofs.Common.{◌≡◌, ◌∙◌, flat_map, sym, ap, arith}
use Rattle.elf32_reader.specs.Header.{count_of}
use Rattle.flat_layout.specs.Layout.{layout}
use Rattle.elf2flt_tool.specs.Cover.{lowest_met, recorded_of}
use Rattle.elf2flt_tool.specs.Walk.{recorded_before}
use Rattle.elf2flt_tool.proofs.Walked.{before-other, before-all, all_found}
use Rattle.elf2flt_tool.proofs.Assembled.{overlap-tested}
use Rattle.elf2flt_tool.proofs.met.lowest_met.Goals as goal
use Rattle.elf2flt_tool.proofs.met.lowest_met.Goals.{then-kept+in_ok-least, else-kept}

pub loop-section-preserved : goal.loop-section-preserved
loop-section-preserved c =
    let e = c.args.walk.now in
    let i = c.loop-section.section in
    elim c.if-kept.branch [
      | then-kept+in_ok-least w ↦ w.least-is ∙ w.in_ok-least.ensures
      | else-kept w ↦ (
          let other = rw c.walk.view_is at (sym c.kept.ensures ∙ w.if-kept.false) in
          w.least-is ∙ c.loop-section.invariant ∙ ap (λ es. lowest_met c.args.cover.now (flat_map (recorded_of (layout e)) es)) (before-other e i other))
    ]

pub returns : goal.returns
returns c =
    let e = c.args.walk.now in
    let cover = c.args.cover.now in
    let count = rw c.walk.view_is at c.sections-section-end.ensures.count in
    let all : c.loop-section.section ≡ count_of e = omega (arith, count) in
    c.loop-section.invariant ∙ ap (λ i. lowest_met cover (recorded_before e i 0)) all
    ∙ ap (λ es. lowest_met cover (flat_map (recorded_of (layout e)) es)) (before-all e)
    ∙ overlap-tested e cover (rw c.walk.view_is at c.walk.invariant.numbers) c.requires.relocs (all_found e cover c.requires.found)
