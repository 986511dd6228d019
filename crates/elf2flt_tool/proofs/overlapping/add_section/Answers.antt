use Rattle.std.proofs.Common.{◌≡◌, ◌∙◌, flat_map, ap, arith}
use Rattle.elf32_reader.specs.Relas.{rela_count}
use Rattle.elf2flt_tool.specs.Noted.{entries_before, met_by}
use Rattle.elf2flt_tool.proofs.NotedSteps.{entries-kept, met_more}
use Rattle.elf2flt_tool.proofs.overlapping.add_section.Goals as goal

pub loop-entry-preserved : goal.loop-entry-preserved
loop-entry-preserved c =
    met_more c.args.walk.now c.args.cover.now c.args.section c.loop-entry.entry c.loop-entry.met.items _ c.loop-entry.invariant c.in_ok-add_entry.ensures

pub returns : goal.returns
returns c =
    let e = c.args.walk.now in
    let i = c.args.section in
    let count = rw c.walk.view_is at c.relas-entry-end.ensures.count in
    let all : c.loop-entry.entry ≡ rela_count e i = omega (arith, count) in
    c.loop-entry.invariant ∙ ap (flat_map (met_by e c.args.cover.now)) (ap (entries_before e i) all ∙ entries-kept e i c.requires.kept)
