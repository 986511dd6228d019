use Rattle.nommu_regions.specs.declared.region.Region.{Region}
use Rattle.std.proofs.Common.{◌≡◌, replicate, rules, refl, length}
use Rattle.std.proofs.lemmas.List.{length-replicate}
use Rattle.nommu_regions.specs.declared.region.Source.TheVariants.{Own}
use Rattle.nommu_regions.proofs.OneChanges.{kept_new}
use Rattle.nommu_regions.proofs.Ids.{inverse_first}
use Rattle.nommu_regions.proofs.regions.Regions.new.Goals as goal

pub invariant_of-result : goal.invariant_of-result
invariant_of-result c =
    let items : c.in_ok-regions.regions.items ≡ replicate c.args.pages (record { first = 0; pages = 0; source = Own; uses = 0 }) = search rules in
    let len : length (replicate {A = Region} c.args.pages (record { first = 0; pages = 0; source = Own; uses = 0 })) ≡ c.args.pages = length-replicate {A = Region} c.args.pages (record { first = 0; pages = 0; source = Own; uses = 0 }) in
    rw (items, c.in_ok-free.ensures) (
      kept_new c.args.pages (record { first = 0; pages = 0; source = Own; uses = 0 }) c.requires.some c.requires.most refl,
      rw (c.in_ok-ids.ensures, c.in_ok-starts.ensures, len) (inverse_first c.args.pages),
    )
