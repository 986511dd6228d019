use Rattle.std.proofs.Common.{◌+◌, ◌*◌, ◌++◌, take, drop, refl, sym, ap, subst, ◌∙◌, arith}
use Rattle.std.proofs.lemmas.Option.{same_Some}
use Rattle.mmap_rules.specs.declared.mapping.Range.{Range}
use Rattle.mmap_rules.specs.Owners.{IsShaped}
use Rattle.flat_loader.specs.Alone.{parts}
use Rattle.replay_check.proofs.CutRanges.{cut_at, cut_items, cut_named, cut_own, gone_shaped}
use Rattle.replay_check.proofs.ranges.cut_range.Goals as goal

pub returns-in_err-reserve-clause-tabled : goal.returns-in_err-reserve-clause-tabled
returns-in_err-reserve-clause-tabled c = rw c.reserve.ensures.items c.requires.tabled

pub overflow_mul-size : goal.overflow_mul-size
overflow_mul-size c =
    let s = (cut_at c.args.ranges.now.items c.reserve.new.self.items c.args.place c.remove-range.result c.args.addr c.args.pages c.requires.tabled.own c.reserve.ensures.items c.remove-range.ensures.value c.requires.cuts).stand in
    omega (arith, s.above, s.before, s.behind, s.inside)

pub overflow_add-addr : goal.overflow_add-addr
overflow_add-addr c =
    let s = (cut_at c.args.ranges.now.items c.reserve.new.self.items c.args.place c.remove-range.result c.args.addr c.args.pages c.requires.tabled.own c.reserve.ensures.items c.remove-range.ensures.value c.requires.cuts).stand in
    omega (arith, s.above, s.before, s.behind, s.inside)

pub overflow_add-range : goal.overflow_add-range
overflow_add-range c =
    let s = (cut_at c.args.ranges.now.items c.reserve.new.self.items c.args.place c.remove-range.result c.args.addr c.args.pages c.requires.tabled.own c.reserve.ensures.items c.remove-range.ensures.value c.requires.cuts).stand in
    omega (arith, s.above, s.before, s.behind, s.inside)

pub insert_part-requires-clause-up : goal.insert_part-requires-clause-up
insert_part-requires-clause-up c =
    let s = (cut_at c.args.ranges.now.items c.reserve.new.self.items c.args.place c.remove-range.result c.args.addr c.args.pages c.requires.tabled.own c.reserve.ensures.items c.remove-range.ensures.value c.requires.cuts).stand in
    omega (arith, s.above, s.before, s.behind)

pub insert_part-requires-2-clause-up : goal.insert_part-requires-2-clause-up
insert_part-requires-2-clause-up c =
    let s = (cut_at c.args.ranges.now.items c.reserve.new.self.items c.args.place c.remove-range.result c.args.addr c.args.pages c.requires.tabled.own c.reserve.ensures.items c.remove-range.ensures.value c.requires.cuts).stand in
    omega (arith, s.above, s.before, s.behind)

pub remove-requires : goal.remove-requires
remove-requires c =
    let r = c.remove-range.result in
    let cut = cut_at c.args.ranges.now.items c.reserve.new.self.items c.args.place c.remove-range.result c.args.addr c.args.pages c.requires.tabled.own c.reserve.ensures.items c.remove-range.ensures.value c.requires.cuts in
    record { shaped = subst (λ n. IsShaped n (record { from = c.args.addr; size = 4096 * c.args.pages; writes = r.writes; anonymous = r.anonymous })) (sym c.requires.tabled.pages) (gone_shaped c.args.ranges.now.items c.args.place r c.args.addr c.args.pages r.writes r.anonymous cut) }

pub returns-clause-ranges : goal.returns-clause-ranges
returns-clause-ranges c = λ r there.
    let ranges = c.args.ranges.now.items in
    let cut = cut_at c.args.ranges.now.items c.reserve.new.self.items c.args.place c.remove-range.result c.args.addr c.args.pages c.requires.tabled.own c.reserve.ensures.items c.remove-range.ensures.value c.requires.cuts in
    let items = cut_items c.args.ranges.now.items c.reserve.new.self.items c.remove-range.new.self.items c.insert_part.new.ranges.items c.insert_part-2.new.ranges.items c.args.place c.remove-range.result c.args.addr (4096 * c.args.pages) c.reserve.ensures.items c.requires.cuts.there c.remove-range.ensures.items c.insert_part.ensures.items c.insert_part-2.ensures.items in
    items ∙ ap (λ (x : Range). take c.args.place ranges ++ parts x c.args.addr (4096 * c.args.pages) ++ drop (c.args.place + 1) ranges) (same_Some _ _ (sym cut.there ∙ there))

pub returns-clause-tabled : goal.returns-clause-tabled
returns-clause-tabled c =
    let ranges = c.args.ranges.now.items in
    let r = c.remove-range.result in
    let cut = cut_at ranges c.reserve.new.self.items c.args.place r c.args.addr c.args.pages c.requires.tabled.own c.reserve.ensures.items c.remove-range.ensures.value c.requires.cuts in
    let items = cut_items ranges c.reserve.new.self.items c.remove-range.new.self.items c.insert_part.new.ranges.items c.insert_part-2.new.ranges.items c.args.place r c.args.addr (4096 * c.args.pages) c.reserve.ensures.items c.requires.cuts.there c.remove-range.ensures.items c.insert_part.ensures.items c.insert_part-2.ensures.items in
    rw items (record {
      pages = c.remove.ensures.len ∙ c.requires.tabled.pages;
      named = cut_named c.args.owners.now c.remove.new.self ranges c.args.place r (record { from = c.args.addr; size = 4096 * c.args.pages; writes = r.writes; anonymous = r.anonymous })
          c.args.addr (4096 * c.args.pages) c.requires.tabled.named cut refl refl c.remove.ensures.each;
      own = cut_own ranges c.args.place r c.args.addr (4096 * c.args.pages) c.requires.tabled.own cut;
    })
