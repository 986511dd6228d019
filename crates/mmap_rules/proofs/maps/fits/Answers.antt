-- A copy has its pages, or a run is long enough.
use Rattle.std.proofs.Common.{◌≡◌, true, false, Bool, sym, ap, refl, ◌∙◌}
use Rattle.std.specs.Prelude.{◌||◌, is_some}
use Rattle.page_runs.specs.Place.{place}
use Rattle.nommu_regions.specs.Regions.{free_of}
use Rattle.mmap_rules.specs.Chosen.{new_run}
use Rattle.mmap_rules.proofs.Fitting.{fits_is}
use Rattle.mmap_rules.proofs.maps.fits.Goals as goal

pub returns-then-is_some : goal.returns-then-is_some
returns-then-is_some c = λ s kind bytes same.
    let n = c.args.regions.now in
    let fits : Bool = is_some (place kind (free_of n.regions).runs (new_run c.args.want).pages) in
    let there : is_some c.part_for.result ≡ true = sym c.is_some.ensures ∙ c.if-is_some.true in
    c.if-is_some.true ∙ ap (λ (b : Bool). b || fits) (sym there)
    ∙ fits_is n fits s bytes kind c.args.want c.part_for.result same c.part_for.ensures.part c.part_for.ensures.live refl

pub returns-else-is_some : goal.returns-else-is_some
returns-else-is_some c = λ s kind bytes same.
    let n = c.args.regions.now in
    let none : is_some c.part_for.result ≡ false = sym c.is_some.ensures ∙ c.if-is_some.false in
    let room = ap (λ p. is_some (place kind (free_of n.regions).runs p)) (sym c.pages_of.ensures) ∙ c.fits.ensures kind in
    ap (λ (b : Bool). b || c.fits.result) (sym none)
    ∙ fits_is n c.fits.result s bytes kind c.args.want c.part_for.result same c.part_for.ensures.part c.part_for.ensures.live room
