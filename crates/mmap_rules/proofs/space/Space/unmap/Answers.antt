use Rattle.std.proofs.Common.{◌*◌, length, subst, sym, arith}
use Rattle.mmap_rules.specs.Held.{Held}
use Rattle.mmap_rules.specs.Mappings.{is_range, can_lose}
use Rattle.mmap_rules.specs.MapState.{NameRegions}
use Rattle.mmap_rules.proofs.Cuts.{cuts, stand}
use Rattle.mmap_rules.proofs.Hits.{unmapped_len, unmapped_page, nothing_hit, all_unmaps, cut_unmaps, refuses, none_passes, first_passes, some_pages, none_hit, all_hit, cut_hit, dropped, cut_at}
use Rattle.mmap_rules.proofs.NamesLess.{lives, can_cut, names_less}
use Rattle.mmap_rules.proofs.NamesCut.{names_cut}
use Rattle.mmap_rules.proofs.space.Space.unmap.Goals as goal
use Rattle.mmap_rules.proofs.space.Space.unmap.Goals.{then-len-eq0-via-then-len-eq0, then-len-eq0-via-else-len-eq0+then-addr-ne0}

pub returns-then-len-eq0-clause-unmaps : goal.returns-then-len-eq0-clause-unmaps
returns-then-len-eq0-clause-unmaps c =
    let h = c.args.self.now in
    let rs = c.args.regions.now.regions in
    elim c.then-len-eq0.branch [
      | then-len-eq0-via-then-len-eq0 w ↦ refuses h rs c.args.addr c.args.len (unmapped_len h rs c.args.addr c.args.len w.if-len-eq0.true)
      | then-len-eq0-via-else-len-eq0+then-addr-ne0 w ↦ refuses h rs c.args.addr c.args.len (unmapped_page h rs c.args.addr c.args.len w.if-addr-ne0.true)
    ]

pub at-id-requires : goal.at-id-requires
at-id-requires c =
    let names = subst (λ (x : Held). NameRegions c.args.regions.now.regions x.maps) (sym c.self.view_is) c.requires.names in
    lives c.args.regions.now.regions c.self.inside.maps.items c.in-Some.place c.take_mapping-gone.result names c.take_mapping-gone.ensures.mapping

pub invariant_of-self : goal.invariant_of-self
invariant_of-self c =
    c.take_mapping-gone.ensures.kept

pub returns-in-Some-clause-names : goal.returns-in-Some-clause-names
returns-in-Some-clause-names c =
    let e = c.take_mapping-gone.ensures in
    let rs = c.args.regions.now.regions in
    let maps = c.self.inside.maps.items in
    let m = c.take_mapping-gone.result in
    let names = subst (λ (x : Held). NameRegions rs x.maps) (sym c.self.view_is) c.requires.names in
    rw (e.maps, dropped c.args.regions.now c.drop_use.new.self c.at-id.result c.take_mapping-gone.result.first c.at-id.ensures.start c.drop_use.ensures.uses) (names_less rs maps c.in-Some.place m names e.mapping)

pub returns-in-Some-clause-unmaps : goal.returns-in-Some-clause-unmaps
returns-in-Some-clause-unmaps c =
    let e = c.take_mapping-gone.ensures in
    let first = rw c.deref.ensures.value at c.in-Some.ensures in
    all_unmaps c.args.self.now _ c.args.regions.now.regions c.drop_use.new.self.regions c.args.addr c.args.len c.pages_for-pages.result c.in-Some.place c.take_mapping-gone.result
    c.take_mapping-gone.new.maps.items (length c.take_mapping-gone.new.owners) c.self.view_is c.pages_for-pages.ensures c.if-len-eq0.false c.if-addr-ne0.false
    (sym first) e.mapping e.maps e.pages (dropped c.args.regions.now c.drop_use.new.self c.at-id.result c.take_mapping-gone.result.first c.at-id.ensures.start c.drop_use.ensures.uses)

pub returns-in_default-place_that_loses-clause-unmaps : goal.returns-in_default-place_that_loses-clause-unmaps
returns-in_default-place_that_loses-clause-unmaps c =
    let none = rw c.deref.ensures.value at c.in_default.ensures in
    let neither = rw c.deref-2.ensures.value at c.in_default-place_that_loses.ensures in
    refuses c.args.self.now c.args.regions.now.regions c.args.addr c.args.len
    (nothing_hit c.args.self.now _ c.args.regions.now.regions c.args.addr c.args.len c.pages_for-pages.result c.self.view_is c.pages_for-pages.ensures c.if-len-eq0.false c.if-addr-ne0.false (sym none) (sym neither))

pub cut_mapping-cut-requires-clause-can : goal.cut_mapping-cut-requires-clause-can
cut_mapping-cut-requires-clause-can c =
    let maps = c.self.inside.maps.items in
    let n = c.pages_for-pages.result in
    let k = c.in-Some-place_that_loses.place in
    let first = rw c.deref-2.ensures.value at c.in-Some-place_that_loses.ensures in
    record {
      begins = c.if-addr-ne0.false;
      some = some_pages c.args.len n c.pages_for-pages.ensures c.if-len-eq0.false;
      there = (first_passes (can_lose c.args.addr (4096 * n)) maps k (sym first)).within;
      can = (first_passes (can_lose c.args.addr (4096 * n)) maps k (sym first)).passes;
    }

pub overflow_sub-addr : goal.overflow_sub-addr
overflow_sub-addr c =
    let maps = c.self.inside.maps.items in
    let m = c.cut_mapping-cut.result in
    let k = c.in-Some-place_that_loses.place in
    let n = c.pages_for-pages.result in
    let first = rw c.deref-2.ensures.value at c.in-Some-place_that_loses.ensures in
    let there = c.cut_mapping-cut.ensures.mapping in
    let can = (first_passes (can_lose c.args.addr (4096 * n)) maps k (sym first)).passes m there in
    let pages = length c.self.inside.owners in
    let is = cuts pages maps k m c.args.addr n c.self.invariant.mappings there c.if-addr-ne0.false (some_pages c.args.len n c.pages_for-pages.ensures c.if-len-eq0.false) can in
    let s = stand pages m c.args.addr (4096 * n) is in
    omega (arith, s.above, s.before)

pub at-id-requires-2 : goal.at-id-requires-2
at-id-requires-2 c =
    let names = subst (λ (x : Held). NameRegions c.args.regions.now.regions x.maps) (sym c.self.view_is) c.requires.names in
    lives c.args.regions.now.regions c.self.inside.maps.items c.in-Some-place_that_loses.place c.cut_mapping-cut.result names c.cut_mapping-cut.ensures.mapping

pub cut-requires : goal.cut-requires
cut-requires c =
    let maps = c.self.inside.maps.items in
    let m = c.cut_mapping-cut.result in
    let k = c.in-Some-place_that_loses.place in
    let n = c.pages_for-pages.result in
    let none = rw c.deref.ensures.value at c.in_default.ensures in
    let first = rw c.deref-2.ensures.value at c.in-Some-place_that_loses.ensures in
    let there = c.cut_mapping-cut.ensures.mapping in
    let can = (first_passes (can_lose c.args.addr (4096 * n)) maps k (sym first)).passes m there in
    let pages = length c.self.inside.owners in
    let is = cuts pages maps k m c.args.addr n c.self.invariant.mappings there c.if-addr-ne0.false (some_pages c.args.len n c.pages_for-pages.ensures c.if-len-eq0.false) can in
    let names = subst (λ (x : Held). NameRegions c.args.regions.now.regions x.maps) (sym c.self.view_is) c.requires.names in
    rw c.at-id-2.ensures.start (can_cut c.args.regions.now.regions maps pages k m c.args.addr n c.pages-memory.ensures.regions names there is (none_passes (is_range c.args.addr (4096 * n)) maps k m (sym none) there))

pub invariant_of-self-2 : goal.invariant_of-self-2
invariant_of-self-2 c =
    c.cut_mapping-cut.ensures.kept

pub returns-clause-names : goal.returns-clause-names
returns-clause-names c =
    let e = c.cut_mapping-cut.ensures in
    let rs = c.args.regions.now.regions in
    let maps = c.self.inside.maps.items in
    let m = c.cut_mapping-cut.result in
    let k = c.in-Some-place_that_loses.place in
    let n = c.pages_for-pages.result in
    let first = rw c.deref-2.ensures.value at c.in-Some-place_that_loses.ensures in
    let can = (first_passes (can_lose c.args.addr (4096 * n)) maps k (sym first)).passes m e.mapping in
    let pages = length c.self.inside.owners in
    let is = cuts pages maps k m c.args.addr n c.self.invariant.mappings e.mapping c.if-addr-ne0.false (some_pages c.args.len n c.pages_for-pages.ensures c.if-len-eq0.false) can in
    let names = subst (λ (x : Held). NameRegions rs x.maps) (sym c.self.view_is) c.requires.names in
    rw (e.maps, cut_at c.args.regions.now c.cut.new.self.regions c.at-id-2.result c.cut_mapping-cut.result.first _ _ c.at-id-2.ensures.start c.cut.ensures.regions) (names_cut rs maps pages k m c.args.addr n c.pages-memory.ensures.regions names e.mapping is)

pub returns-clause-unmaps : goal.returns-clause-unmaps
returns-clause-unmaps c =
    let e = c.cut_mapping-cut.ensures in
    let none = rw c.deref.ensures.value at c.in_default.ensures in
    let first = rw c.deref-2.ensures.value at c.in-Some-place_that_loses.ensures in
    cut_unmaps c.args.self.now _ c.args.regions.now.regions c.cut.new.self.regions c.args.addr c.args.len c.pages_for-pages.result c.in-Some-place_that_loses.place c.cut_mapping-cut.result
    c.cut_mapping-cut.new.maps.items (length c.cut_mapping-cut.new.owners) c.self.view_is c.pages_for-pages.ensures c.if-len-eq0.false c.if-addr-ne0.false
    (sym none) (sym first) e.mapping e.maps e.pages (cut_at c.args.regions.now c.cut.new.self.regions c.at-id-2.result c.cut_mapping-cut.result.first _ _ c.at-id-2.ensures.start c.cut.ensures.regions)

pub returns-then-len-eq0-clause-others : goal.returns-then-len-eq0-clause-others
returns-then-len-eq0-clause-others c =
    let h = c.args.self.now in
    let rs = c.args.regions.now.regions in
    elim c.then-len-eq0.branch [
      | then-len-eq0-via-then-len-eq0 w ↦ rw (none_hit h rs c.args.addr c.args.len (unmapped_len h rs c.args.addr c.args.len w.if-len-eq0.true)) (tt {0})
      | then-len-eq0-via-else-len-eq0+then-addr-ne0 w ↦ rw (none_hit h rs c.args.addr c.args.len (unmapped_page h rs c.args.addr c.args.len w.if-addr-ne0.true)) (tt {0})
    ]

pub returns-in_default-place_that_loses-clause-others : goal.returns-in_default-place_that_loses-clause-others
returns-in_default-place_that_loses-clause-others c =
    let none = rw c.deref.ensures.value at c.in_default.ensures in
    let neither = rw c.deref-2.ensures.value at c.in_default-place_that_loses.ensures in
    rw (none_hit c.args.self.now c.args.regions.now.regions c.args.addr c.args.len
    (nothing_hit c.args.self.now _ c.args.regions.now.regions c.args.addr c.args.len c.pages_for-pages.result c.self.view_is c.pages_for-pages.ensures c.if-len-eq0.false c.if-addr-ne0.false (sym none) (sym neither)))
    (tt {0})

pub returns-in-Some-clause-others : goal.returns-in-Some-clause-others
returns-in-Some-clause-others c =
    let first = rw c.deref.ensures.value at c.in-Some.ensures in
    rw (all_hit c.args.self.now _ c.args.addr c.args.len c.pages_for-pages.result c.in-Some.place c.take_mapping-gone.result
    c.self.view_is c.pages_for-pages.ensures c.if-len-eq0.false c.if-addr-ne0.false (sym first) c.take_mapping-gone.ensures.mapping)
    (record { id = c.at-id.result; start = c.at-id.ensures.start; others = c.drop_use.ensures.others })

pub returns-clause-others : goal.returns-clause-others
returns-clause-others c =
    let none = rw c.deref.ensures.value at c.in_default.ensures in
    let first = rw c.deref-2.ensures.value at c.in-Some-place_that_loses.ensures in
    let cut = cut_hit c.args.self.now _ c.args.addr c.args.len c.pages_for-pages.result c.in-Some-place_that_loses.place c.cut_mapping-cut.result
    c.self.view_is c.pages_for-pages.ensures c.if-len-eq0.false c.if-addr-ne0.false (sym none) (sym first) c.cut_mapping-cut.ensures.mapping in
    rw cut.hits (record { id = c.at-id-2.result; start = c.at-id-2.ensures.start; others = c.cut.ensures.others })

pub returns-clause-ids : goal.returns-clause-ids
returns-clause-ids c =
    let none = rw c.deref.ensures.value at c.in_default.ensures in
    let first = rw c.deref-2.ensures.value at c.in-Some-place_that_loses.ensures in
    let cut = cut_hit c.args.self.now _ c.args.addr c.args.len c.pages_for-pages.result c.in-Some-place_that_loses.place c.cut_mapping-cut.result
    c.self.view_is c.pages_for-pages.ensures c.if-len-eq0.false c.if-addr-ne0.false (sym none) (sym first) c.cut_mapping-cut.ensures.mapping in
    rw cut.hits (λ nothing. absurd (cut.some nothing))
