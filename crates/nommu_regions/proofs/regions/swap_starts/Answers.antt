use Rattle.std.proofs.Common.{length}
use Rattle.std.proofs.lemmas.List.{get_or_default}
use Rattle.nommu_regions.proofs.Ids.{inverse_swapped}
use Rattle.nommu_regions.proofs.regions.swap_starts.Goals as goal

pub returns-clause-inverse : goal.returns-clause-inverse
returns-clause-inverse c =
    rw (c.swap.ensures.after, c.swap-2.ensures.after)
    (inverse_swapped c.args.ids.now c.args.starts.now (length c.args.starts.now) c.args.one c.args.other _ _ c.requires.inverse c.requires.one c.requires.other
    (get_or_default c.args.starts.now c.args.one 0 (length c.args.starts.now) c.requires.one)
    (get_or_default c.args.starts.now c.args.other 0 (length c.args.starts.now) c.requires.other))
