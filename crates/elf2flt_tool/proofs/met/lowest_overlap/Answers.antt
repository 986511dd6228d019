use Rattle.std.proofs.Common.{map, sym, ap, ◌∙◌}
use Rattle.std.specs.List.{list_any}
use Rattle.flat_layout.specs.Layout.{layout}
use Rattle.elf2flt_tool.specs.Relocs.{spans_of}
use Rattle.elf2flt_tool.specs.Word.{lowest}
use Rattle.elf2flt_tool.specs.Cover.{is_plain_met}
use Rattle.elf2flt_tool.proofs.Walked.{all_found}
use Rattle.elf2flt_tool.proofs.Unmet.{none_met}
use Rattle.elf2flt_tool.proofs.Assembled.{overlap-tested}
use Rattle.elf2flt_tool.proofs.met.lowest_overlap.Goals as goal

pub returns-else-some_plain_met : goal.returns-else-some_plain_met
returns-else-some_plain_met c =
    let e = c.args.walk.now in
    let cover = c.args.cover.now in
    let found = all_found e cover c.requires.found in
    let none = ap (list_any (is_plain_met cover)) (sym c.requires.places) ∙ sym c.some_plain_met.ensures ∙ c.if-some_plain_met.false in
    sym (ap (λ rs. lowest (map (λ r. r.place) rs)) (none_met (layout e) _ (spans_of e) cover found none))
    ∙ overlap-tested e cover c.requires.numbers c.requires.relocs found
