use Rattle.std.proofs.Common.{◌≡◌, ◌∷◌, [], ◌++◌, sym, ap, Some, ◌∙◌}
use Rattle.std.specs.Option.{option_to_list}
use Rattle.elf2flt_tool.specs.Word.{lower}
use Rattle.elf2flt_tool.specs.Cover.{listed, recorded_of, is_met, lowest_met}
use Rattle.elf2flt_tool.proofs.Lowest.{lowest-last_yes}
use Rattle.elf2flt_tool.proofs.met.lower_of.Goals as goal

pub returns-in-Some : goal.returns-in-Some
returns-in-Some c = λ rs is.
    let cover = c.args.cover.now in
    let word = c.in-Some.word in
    let one : word ∷ [] ≡ recorded_of c.args.layout.now (listed c.args.spans.now) = ap option_to_list (sym c.in-Some.is) ∙ c.recorded_of.ensures in
    ap Some c.lower.ensures ∙ ap (λ o. Some (lower word.place o)) is
    ∙ sym (lowest-last_yes (λ r. r.place) (is_met cover) rs word (sym c.is_met.ensures ∙ c.if-is_met.true)) ∙ ap (λ ws. lowest_met cover (rs ++ ws)) one
