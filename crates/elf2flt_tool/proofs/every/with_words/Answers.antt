use Rattle.std.proofs.Common.{◌∙◌, ◌++◌, map, ap, ap₂}
use Rattle.elf2flt_tool.specs.Faults.{stored_len, by_place, target_at, overlap_at}
use Rattle.elf2flt_tool.proofs.AllFaults.{outside_within, overlapping_within}
use Rattle.elf2flt_tool.proofs.NotedSteps.{outside_are, met_all, joined}
use Rattle.elf2flt_tool.proofs.every.with_words.Goals as goal

pub returns : goal.returns
returns c =
    let e = c.args.elf.now in
    let n = stored_len e in
    let laid = c.requires.layout in
    let noted = rw c.in_ok-walk.ensures at c.in_ok-noted.ensures in
    let met = (rw c.in_ok-walk.ensures at c.in_ok-met.ensures) ∙ met_all e c.in_ok-noted.noted.cover noted.cover in
    let outside = noted.outside ∙ outside_are e in
    let targets = c.deref.ensures.value ∙ c.in_ok-by_place.ensures n (rw outside (outside_within e c.requires.numbers)) ∙ ap (by_place n) outside in
    let overlaps = c.deref-2.ensures.value ∙ c.in_ok-by_place-2.ensures n (rw met (overlapping_within e c.requires.numbers)) ∙ ap (by_place n) met in
    c.in_ok-add_overlaps.ensures
    ∙ ap₂ (λ fs ws. fs ++ ws)
    (c.in_ok-add_targets.ensures ∙ ap₂ (λ fs ws. fs ++ ws) noted.faults (ap₂ (λ l ws. map (target_at l) ws) laid targets))
    (ap₂ (λ l ws. map (overlap_at l) ws) laid overlaps)
    ∙ joined e
