use Rattle.std.proofs.Common.{◌≡◌, ◌∙◌, flat_map, ap, arith}
use Rattle.elf32_reader.specs.Relas.{rela_count}
use Rattle.flat_layout.specs.Layout.{layout}
use Rattle.elf2flt_tool.specs.Cover.{lowest_met, recorded_of}
use Rattle.elf2flt_tool.specs.Walk.{recorded_before}
use Rattle.elf2flt_tool.proofs.Walked.{before-kept}
use Rattle.elf2flt_tool.proofs.met.lower_in_section.Goals as goal

pub returns : goal.returns
returns c =
    let e = c.args.walk.now in
    let i = c.args.section in
    let count = rw c.walk.view_is at c.relas-entry-end.ensures.count in
    let all : c.loop-entry.entry ≡ rela_count e i = omega (arith, count) in
    c.loop-entry.invariant ∙ ap (λ j. lowest_met c.args.cover.now (recorded_before e i j)) all
    ∙ ap (λ es. lowest_met c.args.cover.now (flat_map (recorded_of (layout e)) es)) (before-kept e i c.requires.kept)
