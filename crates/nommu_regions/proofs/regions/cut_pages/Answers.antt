use Rattle.std.proofs.Common.{get_or, arith, length-set}
use Rattle.std.proofs.lemmas.Bool.Decides.{nat_tests}
use Rattle.nommu_regions.proofs.OneChanges.{taken_by}
use Rattle.nommu_regions.proofs.Copies.{no_region}
use Rattle.nommu_regions.proofs.Cut.{is_cut, kept_front, kept_back, cut_inside, is_front, is_front_and_back, freed}
use Rattle.nommu_regions.proofs.regions.cut_pages.Goals as goal

pub give-requires-clause-taken : goal.give-requires-clause-taken
give-requires-clause-taken c =
    let cut = is_cut c.args.regions.now c.args.first c.args.from c.args.count no_region c.requires.can in
    λ p inside. taken_by c.args.regions.now c.args.free.now c.args.first (get_or c.args.regions.now c.args.first no_region) c.requires.kept cut.there (omega (arith, cut.one)) p
    (grind (arith, nat_tests, inside, cut.first, cut.last))

pub overflow_add-region : goal.overflow_add-region
overflow_add-region c =
    let cut = is_cut c.args.regions.now c.args.first c.args.from c.args.count no_region c.requires.can in
    omega (arith, cut_inside c.args.regions.now c.args.free.now c.args.first (get_or c.args.regions.now c.args.first no_region) c.args.from c.args.count c.requires.kept cut, c.requires.kept.3)

pub behind-requires-clause-first : goal.behind-requires-clause-first
behind-requires-clause-first c =
    let cut = is_cut c.args.regions.now c.args.first c.args.from c.args.count no_region c.requires.can in
    omega (arith, cut.first)

pub bounds-regions-end : goal.bounds-regions-end
bounds-regions-end c =
    let cut = is_cut c.args.regions.now c.args.first c.args.from c.args.count no_region c.requires.can in
    omega (arith, length-set c.args.regions.now c.args.first c.before-2.result, cut_inside c.args.regions.now c.args.free.now c.args.first (get_or c.args.regions.now c.args.first no_region) c.args.from c.args.count c.requires.kept cut)

pub returns-then-end-region-clause-kept : goal.returns-then-end-region-clause-kept
returns-then-end-region-clause-kept c =
    let cut = is_cut c.args.regions.now c.args.first c.args.from c.args.count no_region c.requires.can in
    rw (c.before-2.ensures, c.behind.ensures) (kept_back c.args.regions.now c.args.free.now c.give.new.self c.args.first (get_or c.args.regions.now c.args.first no_region) c.args.from c.args.count c.requires.kept cut c.give.ensures c.if-end-region.true)

pub returns-then-end-region-clause-regions : goal.returns-then-end-region-clause-regions
returns-then-end-region-clause-regions c =
    let cut = is_cut c.args.regions.now c.args.first c.args.from c.args.count no_region c.requires.can in
    rw (c.before-2.ensures, c.behind.ensures) (is_front_and_back c.args.regions.now c.args.first (get_or c.args.regions.now c.args.first no_region) c.args.from c.args.count cut c.if-end-region.true)

pub returns-else-end-region-clause-kept : goal.returns-else-end-region-clause-kept
returns-else-end-region-clause-kept c =
    let cut = is_cut c.args.regions.now c.args.first c.args.from c.args.count no_region c.requires.can in
    rw c.before-2.ensures (kept_front c.args.regions.now c.args.free.now c.give.new.self c.args.first (get_or c.args.regions.now c.args.first no_region) c.args.from c.args.count c.requires.kept cut c.give.ensures (omega (arith, cut.last, c.if-end-region.false)))

pub returns-else-end-region-clause-regions : goal.returns-else-end-region-clause-regions
returns-else-end-region-clause-regions c =
    let cut = is_cut c.args.regions.now c.args.first c.args.from c.args.count no_region c.requires.can in
    rw c.before-2.ensures (is_front c.args.regions.now c.args.first (get_or c.args.regions.now c.args.first no_region) c.args.from c.args.count cut (omega (arith, cut.last, c.if-end-region.false)))

pub returns-then-end-region-clause-free : goal.returns-then-end-region-clause-free
returns-then-end-region-clause-free c = freed c.args.regions.now _ c.args.free.now c.give.new.self c.args.from c.args.count c.requires.kept (returns-then-end-region-clause-kept c) c.give.ensures

pub returns-else-end-region-clause-free : goal.returns-else-end-region-clause-free
returns-else-end-region-clause-free c = freed c.args.regions.now _ c.args.free.now c.give.new.self c.args.from c.args.count c.requires.kept (returns-else-end-region-clause-kept c) c.give.ensures
