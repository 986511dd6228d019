use Rattle.std.proofs.Common.{◌≡◌, ◌+◌, ◌∷◌, ◌++◌, [], map, filter, take, get_or, sym, ap, Some, ◌∙◌}
use Rattle.std.proofs.lemmas.List.{take_more, map-append}
use Rattle.flat_layout.specs.Layout.{size_of}
use Rattle.elf2flt_tool.specs.Word.{lower, lowest, places, points_outside, word_at}
use Rattle.elf2flt_tool.specs.declared.word.Word.{Word}
use Rattle.elf2flt_tool.proofs.Lowest.{lowest-last_yes, lowest-last_no}
use Rattle.elf2flt_tool.proofs.target.lowest_outside.Goals as goal
use Rattle.elf2flt_tool.proofs.target.lowest_outside.Goals.{then-points_outside, else-points_outside}

pub loop-place-preserved : goal.loop-place-preserved
loop-place-preserved c =
    let ps = c.args.places.now in
    let i = c.loop-place.place-index in
    let p = get_or ps i 0 in
    let at = word_at c.args.layout.now c.args.image.now in
    let test = points_outside (size_of c.args.layout.now) in
    let more : map at (take i ps) ++ at p ∷ [] ≡ map at (take (i + 1) ps) = sym (map-append at (take i ps) (p ∷ [])) ∙ ap (map at) (sym (take_more ps i 0 c.loop-place-test.true)) in
    elim c.if-points_outside.branch [
      | then-points_outside w ↦
          w.least-is ∙ ap Some w.lower.ensures ∙ ap (λ (w : Word). Some (lower w.place c.loop-place.least)) c.word_at-word.ensures ∙ ap (λ o. Some (lower p o)) c.loop-place.invariant
          ∙ sym (lowest-last_yes (λ (w : Word). w.place) test (map at (take i ps)) (at p) (ap test (sym c.word_at-word.ensures) ∙ sym c.points_outside.ensures ∙ w.if-points_outside.true))
          ∙ ap (λ ws. lowest (places (filter test ws))) more
      | else-points_outside w ↦
          w.least-is ∙ c.loop-place.invariant
          ∙ sym (lowest-last_no (λ (w : Word). w.place) test (map at (take i ps)) (at p) (ap test (sym c.word_at-word.ensures) ∙ sym c.points_outside.ensures ∙ w.if-points_outside.false))
          ∙ ap (λ ws. lowest (places (filter test ws))) more
    ]
