use Rattle.std.proofs.Common.{◌≡◌, Some, length, refl, sym, subst}
use Rattle.std.specs.Prelude.{slice_get}
use Rattle.std.proofs.lemmas.Option.{slice_get_read}
use Rattle.mmap_rules.specs.Owners.{IsShaped}
use Rattle.replay_check.proofs.CutRanges.{taken}
use Rattle.replay_check.proofs.ranges.take_range.Goals as goal

pub remove-requires : goal.remove-requires
remove-requires c =
    let ranges = c.args.ranges.now.items in
    let r = c.remove-range.result in
    let there : slice_get ranges c.args.place ≡ Some r = slice_get_read ranges (length ranges) c.args.place r refl c.requires.place c.remove-range.ensures.value in
    record { shaped = subst (λ n. IsShaped n r) (sym c.requires.tabled.pages) (c.requires.tabled.own c.args.place r there).shaped }

pub returns-clause-tabled : goal.returns-clause-tabled
returns-clause-tabled c =
    let ranges = c.args.ranges.now.items in
    let r = c.remove-range.result in
    let there : slice_get ranges c.args.place ≡ Some r = slice_get_read ranges (length ranges) c.args.place r refl c.requires.place c.remove-range.ensures.value in
    rw c.remove-range.ensures.by_index.2 (taken c.args.owners.now c.remove.new.self ranges c.args.place r c.requires.tabled there c.remove.ensures.len c.remove.ensures.each)
