use Rattle.std.proofs.lemmas.Map.Keys.{le_from_not_gt}
use Rattle.psabi_relocs.proofs.StoredSlots.{not_above, none_behind}
use Rattle.psabi_relocs.proofs.stored.at_or_below.Goals as goal

pub returns-in-Some : goal.returns-in-Some
returns-in-Some c =
    let first = c.in-Some.field-0-0.now in
    let at = (c.range.ensures.in_range tt).3 _ _ c.in-Some.ensures.steps in
    let last = (c.range.ensures.in_range tt).4 _ _ c.in-Some.ensures.steps in
    (first, le_from_not_gt first c.args.address at.0.1, at.1, λ q below behind. none_behind _ first q (last q (tt, not_above q c.args.address below)) behind)
