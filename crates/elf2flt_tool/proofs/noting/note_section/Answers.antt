use Rattle.std.proofs.Common.{◌≡◌, ◌∙◌, ap, subst, arith}
use Rattle.elf32_reader.specs.Relas.{rela_count}
use Rattle.elf2flt_tool.specs.Noted.{IsNoted, entries_before}
use Rattle.elf2flt_tool.proofs.NotedSteps.{entries-kept}
use Rattle.elf2flt_tool.proofs.noting.note_section.Goals as goal

pub returns : goal.returns
returns c =
    let e = c.args.walk.now in
    let i = c.args.section in
    let count = rw c.walk.view_is at c.relas-entry-end.ensures.count in
    let all : c.loop-entry.entry ≡ rela_count e i = omega (arith, count) in
    subst (λ xs. IsNoted e xs c.loop-entry.noted) (ap (entries_before e i) all ∙ entries-kept e i c.requires.kept) c.loop-entry.invariant
