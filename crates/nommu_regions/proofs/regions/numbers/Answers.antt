use Rattle.std.proofs.Common.{◌∙◌, ◌++◌, ◌∷◌, [], ap, List, ℕ}
use Rattle.nommu_regions.proofs.Ids.{numbers_more}
use Rattle.nommu_regions.proofs.regions.numbers.Goals as goal

pub loop-number-preserved : goal.loop-number-preserved
loop-number-preserved c =
    c.in_ok-push.ensures.items ∙ (ap (λ (xs : List ℕ). xs ++ c.loop-number.number ∷ []) c.loop-number.invariant ∙ numbers_more c.loop-number.number)
