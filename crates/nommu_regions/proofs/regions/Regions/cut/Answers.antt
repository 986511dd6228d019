use Rattle.std.proofs.Common.{◌≡◌, ◌<◌, ◌≤◌, ◌+◌, ◌∙◌, ℕ, List, length, get_or, arith, ap, sym}
use Rattle.std.specs.List.{swap}
use Rattle.std.specs.Vec.{with_items}
use Rattle.std.proofs.lemmas.List.{with_items_is, get_or_read_under}
use Rattle.std.proofs.lemmas.Bool.Decides.{nat_tests}
use Rattle.std.proofs.lemmas.List.Edits.{length-swap}
use Rattle.nommu_regions.specs.declared.region.Region.{Region}
use Rattle.nommu_regions.specs.Regions.{with_cut}
use Rattle.nommu_regions.proofs.Ids.{id_within}
use Rattle.nommu_regions.proofs.Numbered.{At, read_at, region_at, lives_at, lives_cut, cut_at, live_kept, live_upper, none_upper, none_lower, part_lower, part_upper, some_upper, others_cut, others_swapped, ids_stay, ids_swapped, start_at}
use Rattle.nommu_regions.proofs.regions.Regions.cut.Goals as goal

pub overflow_add-region : goal.overflow_add-region
overflow_add-region c =
    let at : At c.self.inside.regions.items c.self.inside.starts.items c.args.self.now c.args.id c.index-first.result.now c.index-region.result.now = read_at c.self.inside.regions.items c.self.inside.ids.items c.self.inside.starts.items c.args.self.now c.args.id c.index-first.result.now _ _ c.index-region.result.now c.self.view_is c.self.invariant.1 (lives_cut c.self.inside.regions.items c.self.inside.starts.items c.args.self.now c.args.id c.args.from c.args.count c.requires) c.self.inside.starts.ok.0 c.index-first.ensures c.self.inside.regions.ok.0 c.index-region.ensures in
    let cut = cut_at c.self.inside.regions.items c.self.inside.starts.items c.args.self.now c.args.id c.index-first.result.now c.index-region.result.now c.args.from c.args.count at c.requires in
    let begins : c.index-region.result.now.first ≡ c.index-first.result.now = c.self.invariant.0.0.begins c.index-first.result.now c.index-region.result.now at.there at.live in
    let inside : c.index-region.result.now.first + c.index-region.result.now.pages ≤ length c.self.inside.regions.items = c.self.invariant.0.0.inside c.index-first.result.now c.index-region.result.now at.there at.live in
    omega (arith, inside, c.self.invariant.0.3)

pub index-upper-requires : goal.index-upper-requires
index-upper-requires c =
    let at : At c.self.inside.regions.items c.self.inside.starts.items c.args.self.now c.args.id c.index-first.result.now c.index-region.result.now = read_at c.self.inside.regions.items c.self.inside.ids.items c.self.inside.starts.items c.args.self.now c.args.id c.index-first.result.now _ _ c.index-region.result.now c.self.view_is c.self.invariant.1 (lives_cut c.self.inside.regions.items c.self.inside.starts.items c.args.self.now c.args.id c.args.from c.args.count c.requires) c.self.inside.starts.ok.0 c.index-first.ensures c.self.inside.regions.ok.0 c.index-region.ensures in
    let cut = cut_at c.self.inside.regions.items c.self.inside.starts.items c.args.self.now c.args.id c.index-first.result.now c.index-region.result.now c.args.from c.args.count at c.requires in
    let begins : c.index-region.result.now.first ≡ c.index-first.result.now = c.self.invariant.0.0.begins c.index-first.result.now c.index-region.result.now at.there at.live in
    let inside : c.index-region.result.now.first + c.index-region.result.now.pages ≤ length c.self.inside.regions.items = c.self.invariant.0.0.inside c.index-first.result.now c.index-region.result.now at.there at.live in
    omega (arith, inside, cut.last, c.self.invariant.1.ids_len, c.self.inside.ids.ok.0, c.if-end-region.false)

pub returns-then-end-region-clause-part : goal.returns-then-end-region-clause-part
returns-then-end-region-clause-part c =
    let at : At c.self.inside.regions.items c.self.inside.starts.items c.args.self.now c.args.id c.index-first.result.now c.index-region.result.now = read_at c.self.inside.regions.items c.self.inside.ids.items c.self.inside.starts.items c.args.self.now c.args.id c.index-first.result.now _ _ c.index-region.result.now c.self.view_is c.self.invariant.1 (lives_cut c.self.inside.regions.items c.self.inside.starts.items c.args.self.now c.args.id c.args.from c.args.count c.requires) c.self.inside.starts.ok.0 c.index-first.ensures c.self.inside.regions.ok.0 c.index-region.ensures in
    let cut = cut_at c.self.inside.regions.items c.self.inside.starts.items c.args.self.now c.args.id c.index-first.result.now c.index-region.result.now c.args.from c.args.count at c.requires in
    let begins : c.index-region.result.now.first ≡ c.index-first.result.now = c.self.invariant.0.0.begins c.index-first.result.now c.index-region.result.now at.there at.live in
    let inside : c.index-region.result.now.first + c.index-region.result.now.pages ≤ length c.self.inside.regions.items = c.self.invariant.0.0.inside c.index-first.result.now c.index-region.result.now at.there at.live in
    let whole : (with_items c.self.inside.regions c.cut_pages.new.regions).items ≡ c.cut_pages.new.regions = with_items_is c.self.inside.regions c.cut_pages.new.regions (c.cut_pages.ensures.len ∙ (ap length c.deref_mut.ensures.value ∙ sym c.self.inside.regions.ok.0)) in
    let is : (with_items c.self.inside.regions c.cut_pages.new.regions).items ≡ with_cut c.self.inside.regions.items c.index-first.result.now c.args.from c.args.count = whole ∙ (c.cut_pages.ensures.regions ∙ ap (λ (l : List Region). with_cut l c.index-first.result.now c.args.from c.args.count) c.deref_mut.ensures.value) in
    let len : length (with_items c.self.inside.regions c.cut_pages.new.regions).items ≡ length c.self.inside.regions.items = ap length whole ∙ (c.cut_pages.ensures.len ∙ ap length c.deref_mut.ensures.value) in
    record {
      part = λ r named. part_lower c.self.inside.regions.items _ c.self.inside.starts.items c.args.self.now c.args.id c.index-first.result.now c.index-region.result.now c.args.from c.args.count at cut is len begins (omega (arith, c.if-end-region.true, cut.less, cut.first, begins)) r named;
      live = live_kept _ c.args.id c.index-region.result.now c.args.from c.args.count cut.one (part_lower c.self.inside.regions.items _ c.self.inside.starts.items c.args.self.now c.args.id c.index-first.result.now c.index-region.result.now c.args.from c.args.count at cut is len begins (omega (arith, c.if-end-region.true, cut.less, cut.first, begins)) c.index-region.result.now (region_at c.self.inside.regions.items c.self.inside.starts.items c.args.self.now c.args.id c.index-first.result.now c.index-region.result.now at));
      ids = λ r named. ids_stay c.self.inside.regions.items _ c.self.inside.starts.items c.args.self.now c.args.id c.index-first.result.now c.index-region.result.now c.args.from c.args.count at (grind (arith, nat_tests, c.if-end-region.true)) r named;
    }

pub returns-then-end-region-clause-upper : goal.returns-then-end-region-clause-upper
returns-then-end-region-clause-upper c =
    let at : At c.self.inside.regions.items c.self.inside.starts.items c.args.self.now c.args.id c.index-first.result.now c.index-region.result.now = read_at c.self.inside.regions.items c.self.inside.ids.items c.self.inside.starts.items c.args.self.now c.args.id c.index-first.result.now _ _ c.index-region.result.now c.self.view_is c.self.invariant.1 (lives_cut c.self.inside.regions.items c.self.inside.starts.items c.args.self.now c.args.id c.args.from c.args.count c.requires) c.self.inside.starts.ok.0 c.index-first.ensures c.self.inside.regions.ok.0 c.index-region.ensures in
    record {
      part = λ r named. none_upper c.self.inside.regions.items c.self.inside.starts.items c.args.self.now c.args.id c.index-first.result.now c.index-region.result.now c.args.from c.args.count at c.if-end-region.true r named;
      start = tt;
      live = tt;
    }

pub returns-then-end-region-clause-others : goal.returns-then-end-region-clause-others
returns-then-end-region-clause-others c =
    let at : At c.self.inside.regions.items c.self.inside.starts.items c.args.self.now c.args.id c.index-first.result.now c.index-region.result.now = read_at c.self.inside.regions.items c.self.inside.ids.items c.self.inside.starts.items c.args.self.now c.args.id c.index-first.result.now _ _ c.index-region.result.now c.self.view_is c.self.invariant.1 (lives_cut c.self.inside.regions.items c.self.inside.starts.items c.args.self.now c.args.id c.args.from c.args.count c.requires) c.self.inside.starts.ok.0 c.index-first.ensures c.self.inside.regions.ok.0 c.index-region.ensures in
    let cut = cut_at c.self.inside.regions.items c.self.inside.starts.items c.args.self.now c.args.id c.index-first.result.now c.index-region.result.now c.args.from c.args.count at c.requires in
    let begins : c.index-region.result.now.first ≡ c.index-first.result.now = c.self.invariant.0.0.begins c.index-first.result.now c.index-region.result.now at.there at.live in
    let inside : c.index-region.result.now.first + c.index-region.result.now.pages ≤ length c.self.inside.regions.items = c.self.invariant.0.0.inside c.index-first.result.now c.index-region.result.now at.there at.live in
    let whole : (with_items c.self.inside.regions c.cut_pages.new.regions).items ≡ c.cut_pages.new.regions = with_items_is c.self.inside.regions c.cut_pages.new.regions (c.cut_pages.ensures.len ∙ (ap length c.deref_mut.ensures.value ∙ sym c.self.inside.regions.ok.0)) in
    let is : (with_items c.self.inside.regions c.cut_pages.new.regions).items ≡ with_cut c.self.inside.regions.items c.index-first.result.now c.args.from c.args.count = whole ∙ (c.cut_pages.ensures.regions ∙ ap (λ (l : List Region). with_cut l c.index-first.result.now c.args.from c.args.count) c.deref_mut.ensures.value) in
    let len : length (with_items c.self.inside.regions c.cut_pages.new.regions).items ≡ length c.self.inside.regions.items = ap length whole ∙ (c.cut_pages.ensures.len ∙ ap length c.deref_mut.ensures.value) in
    others_cut c.self.inside.regions.items _ c.self.inside.ids.items c.self.inside.starts.items c.args.self.now c.args.id c.index-first.result.now c.index-region.result.now c.args.from c.args.count at cut c.self.invariant.1 c.self.invariant.0.0 is len

pub returns-then-first-from-clause-regions : goal.returns-then-first-from-clause-regions
returns-then-first-from-clause-regions c =
    let at : At c.self.inside.regions.items c.self.inside.starts.items c.args.self.now c.args.id c.index-first.result.now c.index-region.result.now = read_at c.self.inside.regions.items c.self.inside.ids.items c.self.inside.starts.items c.args.self.now c.args.id c.index-first.result.now _ _ c.index-region.result.now c.self.view_is c.self.invariant.1 (lives_cut c.self.inside.regions.items c.self.inside.starts.items c.args.self.now c.args.id c.args.from c.args.count c.requires) c.self.inside.starts.ok.0 c.index-first.ensures c.self.inside.regions.ok.0 c.index-region.ensures in
    let cut = cut_at c.self.inside.regions.items c.self.inside.starts.items c.args.self.now c.args.id c.index-first.result.now c.index-region.result.now c.args.from c.args.count at c.requires in
    let begins : c.index-region.result.now.first ≡ c.index-first.result.now = c.self.invariant.0.0.begins c.index-first.result.now c.index-region.result.now at.there at.live in
    let inside : c.index-region.result.now.first + c.index-region.result.now.pages ≤ length c.self.inside.regions.items = c.self.invariant.0.0.inside c.index-first.result.now c.index-region.result.now at.there at.live in
    let whole : (with_items c.self.inside.regions c.cut_pages.new.regions).items ≡ c.cut_pages.new.regions = with_items_is c.self.inside.regions c.cut_pages.new.regions (c.cut_pages.ensures.len ∙ (ap length c.deref_mut.ensures.value ∙ sym c.self.inside.regions.ok.0)) in
    let is : (with_items c.self.inside.regions c.cut_pages.new.regions).items ≡ with_cut c.self.inside.regions.items c.index-first.result.now c.args.from c.args.count = whole ∙ (c.cut_pages.ensures.regions ∙ ap (λ (l : List Region). with_cut l c.index-first.result.now c.args.from c.args.count) c.deref_mut.ensures.value) in
    let len : length (with_items c.self.inside.regions c.cut_pages.new.regions).items ≡ length c.self.inside.regions.items = ap length whole ∙ (c.cut_pages.ensures.len ∙ ap length c.deref_mut.ensures.value) in
    rw (at.start, ← c.self.view_is) is

pub returns-then-first-from-clause-part : goal.returns-then-first-from-clause-part
returns-then-first-from-clause-part c =
    let at : At c.self.inside.regions.items c.self.inside.starts.items c.args.self.now c.args.id c.index-first.result.now c.index-region.result.now = read_at c.self.inside.regions.items c.self.inside.ids.items c.self.inside.starts.items c.args.self.now c.args.id c.index-first.result.now _ _ c.index-region.result.now c.self.view_is c.self.invariant.1 (lives_cut c.self.inside.regions.items c.self.inside.starts.items c.args.self.now c.args.id c.args.from c.args.count c.requires) c.self.inside.starts.ok.0 c.index-first.ensures c.self.inside.regions.ok.0 c.index-region.ensures in
    let cut = cut_at c.self.inside.regions.items c.self.inside.starts.items c.args.self.now c.args.id c.index-first.result.now c.index-region.result.now c.args.from c.args.count at c.requires in
    let begins : c.index-region.result.now.first ≡ c.index-first.result.now = c.self.invariant.0.0.begins c.index-first.result.now c.index-region.result.now at.there at.live in
    let inside : c.index-region.result.now.first + c.index-region.result.now.pages ≤ length c.self.inside.regions.items = c.self.invariant.0.0.inside c.index-first.result.now c.index-region.result.now at.there at.live in
    let whole : (with_items c.self.inside.regions c.cut_pages.new.regions).items ≡ c.cut_pages.new.regions = with_items_is c.self.inside.regions c.cut_pages.new.regions (c.cut_pages.ensures.len ∙ (ap length c.deref_mut.ensures.value ∙ sym c.self.inside.regions.ok.0)) in
    let is : (with_items c.self.inside.regions c.cut_pages.new.regions).items ≡ with_cut c.self.inside.regions.items c.index-first.result.now c.args.from c.args.count = whole ∙ (c.cut_pages.ensures.regions ∙ ap (λ (l : List Region). with_cut l c.index-first.result.now c.args.from c.args.count) c.deref_mut.ensures.value) in
    let len : length (with_items c.self.inside.regions c.cut_pages.new.regions).items ≡ length c.self.inside.regions.items = ap length whole ∙ (c.cut_pages.ensures.len ∙ ap length c.deref_mut.ensures.value) in
    record {
      part = λ r named. part_lower c.self.inside.regions.items _ c.self.inside.starts.items c.args.self.now c.args.id c.index-first.result.now c.index-region.result.now c.args.from c.args.count at cut is len begins c.if-first-from.true r named;
      live = live_kept _ c.args.id c.index-region.result.now c.args.from c.args.count cut.one (part_lower c.self.inside.regions.items _ c.self.inside.starts.items c.args.self.now c.args.id c.index-first.result.now c.index-region.result.now c.args.from c.args.count at cut is len begins c.if-first-from.true c.index-region.result.now (region_at c.self.inside.regions.items c.self.inside.starts.items c.args.self.now c.args.id c.index-first.result.now c.index-region.result.now at));
      ids = λ r named. ids_stay c.self.inside.regions.items _ c.self.inside.starts.items c.args.self.now c.args.id c.index-first.result.now c.index-region.result.now c.args.from c.args.count at (grind (arith, nat_tests, c.if-first-from.true, begins)) r named;
    }

pub returns-then-first-from-clause-upper : goal.returns-then-first-from-clause-upper
returns-then-first-from-clause-upper c =
    let at : At c.self.inside.regions.items c.self.inside.starts.items c.args.self.now c.args.id c.index-first.result.now c.index-region.result.now = read_at c.self.inside.regions.items c.self.inside.ids.items c.self.inside.starts.items c.args.self.now c.args.id c.index-first.result.now _ _ c.index-region.result.now c.self.view_is c.self.invariant.1 (lives_cut c.self.inside.regions.items c.self.inside.starts.items c.args.self.now c.args.id c.args.from c.args.count c.requires) c.self.inside.starts.ok.0 c.index-first.ensures c.self.inside.regions.ok.0 c.index-region.ensures in
    let cut = cut_at c.self.inside.regions.items c.self.inside.starts.items c.args.self.now c.args.id c.index-first.result.now c.index-region.result.now c.args.from c.args.count at c.requires in
    let begins : c.index-region.result.now.first ≡ c.index-first.result.now = c.self.invariant.0.0.begins c.index-first.result.now c.index-region.result.now at.there at.live in
    let inside : c.index-region.result.now.first + c.index-region.result.now.pages ≤ length c.self.inside.regions.items = c.self.invariant.0.0.inside c.index-first.result.now c.index-region.result.now at.there at.live in
    let whole : (with_items c.self.inside.regions c.cut_pages.new.regions).items ≡ c.cut_pages.new.regions = with_items_is c.self.inside.regions c.cut_pages.new.regions (c.cut_pages.ensures.len ∙ (ap length c.deref_mut.ensures.value ∙ sym c.self.inside.regions.ok.0)) in
    let is : (with_items c.self.inside.regions c.cut_pages.new.regions).items ≡ with_cut c.self.inside.regions.items c.index-first.result.now c.args.from c.args.count = whole ∙ (c.cut_pages.ensures.regions ∙ ap (λ (l : List Region). with_cut l c.index-first.result.now c.args.from c.args.count) c.deref_mut.ensures.value) in
    let len : length (with_items c.self.inside.regions c.cut_pages.new.regions).items ≡ length c.self.inside.regions.items = ap length whole ∙ (c.cut_pages.ensures.len ∙ ap length c.deref_mut.ensures.value) in
    let more : c.args.from + c.args.count < c.index-region.result.now.first + c.index-region.result.now.pages = omega (arith, cut.last, c.if-end-region.false) in
    let read : c.index-upper.result.now ≡ get_or c.self.inside.ids.items (c.args.from + c.args.count) (length c.self.inside.regions.items) = get_or_read_under c.self.inside.ids.items (c.args.from + c.args.count) _ c.index-upper.result.now (length c.self.inside.regions.items) c.index-upper.ensures (omega (arith, more, inside, c.self.invariant.1.ids_len, c.self.inside.ids.ok.0)) c.self.inside.ids.ok.0 in
    record {
      part = λ r named. some_upper c.self.inside.regions.items _ c.self.inside.ids.items c.self.inside.starts.items c.args.self.now c.args.id c.index-first.result.now c.index-region.result.now c.args.from c.args.count c.index-upper.result.now at cut c.self.invariant.1 is len begins c.if-first-from.true inside more read r named;
      start = start_at c.self.inside.regions.items c.self.inside.ids.items c.self.inside.starts.items c.args.self.now (c.args.from + c.args.count) c.index-upper.result.now _ c.self.view_is c.self.invariant.1 (omega (arith, more, inside)) c.self.inside.ids.ok.0 c.index-upper.ensures;
      live = live_upper _ c.index-region.result.now c.args.from c.args.count c.index-upper.result.now cut.one (some_upper c.self.inside.regions.items _ c.self.inside.ids.items c.self.inside.starts.items c.args.self.now c.args.id c.index-first.result.now c.index-region.result.now c.args.from c.args.count c.index-upper.result.now at cut c.self.invariant.1 is len begins c.if-first-from.true inside more read c.index-region.result.now (region_at c.self.inside.regions.items c.self.inside.starts.items c.args.self.now c.args.id c.index-first.result.now c.index-region.result.now at));
    }

pub returns-then-first-from-clause-others : goal.returns-then-first-from-clause-others
returns-then-first-from-clause-others c =
    let at : At c.self.inside.regions.items c.self.inside.starts.items c.args.self.now c.args.id c.index-first.result.now c.index-region.result.now = read_at c.self.inside.regions.items c.self.inside.ids.items c.self.inside.starts.items c.args.self.now c.args.id c.index-first.result.now _ _ c.index-region.result.now c.self.view_is c.self.invariant.1 (lives_cut c.self.inside.regions.items c.self.inside.starts.items c.args.self.now c.args.id c.args.from c.args.count c.requires) c.self.inside.starts.ok.0 c.index-first.ensures c.self.inside.regions.ok.0 c.index-region.ensures in
    let cut = cut_at c.self.inside.regions.items c.self.inside.starts.items c.args.self.now c.args.id c.index-first.result.now c.index-region.result.now c.args.from c.args.count at c.requires in
    let begins : c.index-region.result.now.first ≡ c.index-first.result.now = c.self.invariant.0.0.begins c.index-first.result.now c.index-region.result.now at.there at.live in
    let inside : c.index-region.result.now.first + c.index-region.result.now.pages ≤ length c.self.inside.regions.items = c.self.invariant.0.0.inside c.index-first.result.now c.index-region.result.now at.there at.live in
    let whole : (with_items c.self.inside.regions c.cut_pages.new.regions).items ≡ c.cut_pages.new.regions = with_items_is c.self.inside.regions c.cut_pages.new.regions (c.cut_pages.ensures.len ∙ (ap length c.deref_mut.ensures.value ∙ sym c.self.inside.regions.ok.0)) in
    let is : (with_items c.self.inside.regions c.cut_pages.new.regions).items ≡ with_cut c.self.inside.regions.items c.index-first.result.now c.args.from c.args.count = whole ∙ (c.cut_pages.ensures.regions ∙ ap (λ (l : List Region). with_cut l c.index-first.result.now c.args.from c.args.count) c.deref_mut.ensures.value) in
    let len : length (with_items c.self.inside.regions c.cut_pages.new.regions).items ≡ length c.self.inside.regions.items = ap length whole ∙ (c.cut_pages.ensures.len ∙ ap length c.deref_mut.ensures.value) in
    others_cut c.self.inside.regions.items _ c.self.inside.ids.items c.self.inside.starts.items c.args.self.now c.args.id c.index-first.result.now c.index-region.result.now c.args.from c.args.count at cut c.self.invariant.1 c.self.invariant.0.0 is len

pub swap_starts-requires-clause-other : goal.swap_starts-requires-clause-other
swap_starts-requires-clause-other c =
    let at : At c.self.inside.regions.items c.self.inside.starts.items c.args.self.now c.args.id c.index-first.result.now c.index-region.result.now = read_at c.self.inside.regions.items c.self.inside.ids.items c.self.inside.starts.items c.args.self.now c.args.id c.index-first.result.now _ _ c.index-region.result.now c.self.view_is c.self.invariant.1 (lives_cut c.self.inside.regions.items c.self.inside.starts.items c.args.self.now c.args.id c.args.from c.args.count c.requires) c.self.inside.starts.ok.0 c.index-first.ensures c.self.inside.regions.ok.0 c.index-region.ensures in
    let cut = cut_at c.self.inside.regions.items c.self.inside.starts.items c.args.self.now c.args.id c.index-first.result.now c.index-region.result.now c.args.from c.args.count at c.requires in
    let begins : c.index-region.result.now.first ≡ c.index-first.result.now = c.self.invariant.0.0.begins c.index-first.result.now c.index-region.result.now at.there at.live in
    let inside : c.index-region.result.now.first + c.index-region.result.now.pages ≤ length c.self.inside.regions.items = c.self.invariant.0.0.inside c.index-first.result.now c.index-region.result.now at.there at.live in
    let more : c.args.from + c.args.count < c.index-region.result.now.first + c.index-region.result.now.pages = omega (arith, cut.last, c.if-end-region.false) in
    let read : c.index-upper.result.now ≡ get_or c.self.inside.ids.items (c.args.from + c.args.count) (length c.self.inside.regions.items) = get_or_read_under c.self.inside.ids.items (c.args.from + c.args.count) _ c.index-upper.result.now (length c.self.inside.regions.items) c.index-upper.ensures (omega (arith, more, inside, c.self.invariant.1.ids_len, c.self.inside.ids.ok.0)) c.self.inside.ids.ok.0 in
    omega (arith, read, c.self.invariant.1.id (c.args.from + c.args.count) (omega (arith, more, inside)), c.self.invariant.1.starts_len, ap length c.deref_mut-3.ensures.value)

pub returns-clause-regions : goal.returns-clause-regions
returns-clause-regions c =
    let at : At c.self.inside.regions.items c.self.inside.starts.items c.args.self.now c.args.id c.index-first.result.now c.index-region.result.now = read_at c.self.inside.regions.items c.self.inside.ids.items c.self.inside.starts.items c.args.self.now c.args.id c.index-first.result.now _ _ c.index-region.result.now c.self.view_is c.self.invariant.1 (lives_cut c.self.inside.regions.items c.self.inside.starts.items c.args.self.now c.args.id c.args.from c.args.count c.requires) c.self.inside.starts.ok.0 c.index-first.ensures c.self.inside.regions.ok.0 c.index-region.ensures in
    let cut = cut_at c.self.inside.regions.items c.self.inside.starts.items c.args.self.now c.args.id c.index-first.result.now c.index-region.result.now c.args.from c.args.count at c.requires in
    let begins : c.index-region.result.now.first ≡ c.index-first.result.now = c.self.invariant.0.0.begins c.index-first.result.now c.index-region.result.now at.there at.live in
    let inside : c.index-region.result.now.first + c.index-region.result.now.pages ≤ length c.self.inside.regions.items = c.self.invariant.0.0.inside c.index-first.result.now c.index-region.result.now at.there at.live in
    let whole : (with_items c.self.inside.regions c.cut_pages.new.regions).items ≡ c.cut_pages.new.regions = with_items_is c.self.inside.regions c.cut_pages.new.regions (c.cut_pages.ensures.len ∙ (ap length c.deref_mut.ensures.value ∙ sym c.self.inside.regions.ok.0)) in
    let is : (with_items c.self.inside.regions c.cut_pages.new.regions).items ≡ with_cut c.self.inside.regions.items c.index-first.result.now c.args.from c.args.count = whole ∙ (c.cut_pages.ensures.regions ∙ ap (λ (l : List Region). with_cut l c.index-first.result.now c.args.from c.args.count) c.deref_mut.ensures.value) in
    let len : length (with_items c.self.inside.regions c.cut_pages.new.regions).items ≡ length c.self.inside.regions.items = ap length whole ∙ (c.cut_pages.ensures.len ∙ ap length c.deref_mut.ensures.value) in
    rw (at.start, ← c.self.view_is) is

pub returns-clause-part : goal.returns-clause-part
returns-clause-part c =
    let at : At c.self.inside.regions.items c.self.inside.starts.items c.args.self.now c.args.id c.index-first.result.now c.index-region.result.now = read_at c.self.inside.regions.items c.self.inside.ids.items c.self.inside.starts.items c.args.self.now c.args.id c.index-first.result.now _ _ c.index-region.result.now c.self.view_is c.self.invariant.1 (lives_cut c.self.inside.regions.items c.self.inside.starts.items c.args.self.now c.args.id c.args.from c.args.count c.requires) c.self.inside.starts.ok.0 c.index-first.ensures c.self.inside.regions.ok.0 c.index-region.ensures in
    let cut = cut_at c.self.inside.regions.items c.self.inside.starts.items c.args.self.now c.args.id c.index-first.result.now c.index-region.result.now c.args.from c.args.count at c.requires in
    let begins : c.index-region.result.now.first ≡ c.index-first.result.now = c.self.invariant.0.0.begins c.index-first.result.now c.index-region.result.now at.there at.live in
    let inside : c.index-region.result.now.first + c.index-region.result.now.pages ≤ length c.self.inside.regions.items = c.self.invariant.0.0.inside c.index-first.result.now c.index-region.result.now at.there at.live in
    let whole : (with_items c.self.inside.regions c.cut_pages.new.regions).items ≡ c.cut_pages.new.regions = with_items_is c.self.inside.regions c.cut_pages.new.regions (c.cut_pages.ensures.len ∙ (ap length c.deref_mut.ensures.value ∙ sym c.self.inside.regions.ok.0)) in
    let is : (with_items c.self.inside.regions c.cut_pages.new.regions).items ≡ with_cut c.self.inside.regions.items c.index-first.result.now c.args.from c.args.count = whole ∙ (c.cut_pages.ensures.regions ∙ ap (λ (l : List Region). with_cut l c.index-first.result.now c.args.from c.args.count) c.deref_mut.ensures.value) in
    let len : length (with_items c.self.inside.regions c.cut_pages.new.regions).items ≡ length c.self.inside.regions.items = ap length whole ∙ (c.cut_pages.ensures.len ∙ ap length c.deref_mut.ensures.value) in
    let more : c.args.from + c.args.count < c.index-region.result.now.first + c.index-region.result.now.pages = omega (arith, cut.last, c.if-end-region.false) in
    let read : c.index-upper.result.now ≡ get_or c.self.inside.ids.items (c.args.from + c.args.count) (length c.self.inside.regions.items) = get_or_read_under c.self.inside.ids.items (c.args.from + c.args.count) _ c.index-upper.result.now (length c.self.inside.regions.items) c.index-upper.ensures (omega (arith, more, inside, c.self.invariant.1.ids_len, c.self.inside.ids.ok.0)) c.self.inside.ids.ok.0 in
    let less : c.args.id < length c.self.inside.regions.items = omega (arith, id_within c.self.inside.regions.items c.self.inside.ids.items c.self.inside.starts.items c.args.id c.self.invariant.1 (lives_at c.self.inside.regions.items c.self.inside.starts.items c.args.self.now c.args.id c.self.view_is (lives_cut c.self.inside.regions.items c.self.inside.starts.items c.args.self.now c.args.id c.args.from c.args.count c.requires)), c.self.invariant.1.starts_len) in
    let swaps_raw : c.swap_starts.new.starts ≡ swap c.self.inside.starts.items c.args.id c.index-upper.result.now = c.swap_starts.ensures.starts ∙ ap (λ (l : List ℕ). swap l c.args.id c.index-upper.result.now) c.deref_mut-3.ensures.value in
    let swaps : (with_items c.self.inside.starts c.swap_starts.new.starts).items ≡ swap c.self.inside.starts.items c.args.id c.index-upper.result.now = with_items_is c.self.inside.starts c.swap_starts.new.starts (ap length swaps_raw ∙ (length-swap c.self.inside.starts.items c.args.id c.index-upper.result.now ∙ sym c.self.inside.starts.ok.0)) ∙ swaps_raw in
    record {
      part = λ r named. part_upper c.self.inside.regions.items _ c.self.inside.ids.items c.self.inside.starts.items _ c.args.self.now c.args.id c.index-first.result.now c.index-region.result.now c.args.from c.args.count c.index-upper.result.now at cut c.self.invariant.1 is len (omega (arith, c.if-first-from.false, begins)) inside more less read swaps r named;
      live = live_kept _ c.args.id c.index-region.result.now c.args.from c.args.count cut.one (part_upper c.self.inside.regions.items _ c.self.inside.ids.items c.self.inside.starts.items _ c.args.self.now c.args.id c.index-first.result.now c.index-region.result.now c.args.from c.args.count c.index-upper.result.now at cut c.self.invariant.1 is len (omega (arith, c.if-first-from.false, begins)) inside more less read swaps c.index-region.result.now (region_at c.self.inside.regions.items c.self.inside.starts.items c.args.self.now c.args.id c.index-first.result.now c.index-region.result.now at));
      ids = λ r named. ids_swapped c.self.inside.regions.items _ c.self.inside.ids.items c.self.inside.starts.items _ c.args.self.now c.args.id c.index-first.result.now c.index-region.result.now c.args.from c.args.count c.index-upper.result.now at c.self.invariant.1 (grind (arith, nat_tests, c.if-first-from.false, begins, more)) (omega (arith, more, inside)) read swaps r named;
    }

pub returns-clause-upper : goal.returns-clause-upper
returns-clause-upper c =
    let at : At c.self.inside.regions.items c.self.inside.starts.items c.args.self.now c.args.id c.index-first.result.now c.index-region.result.now = read_at c.self.inside.regions.items c.self.inside.ids.items c.self.inside.starts.items c.args.self.now c.args.id c.index-first.result.now _ _ c.index-region.result.now c.self.view_is c.self.invariant.1 (lives_cut c.self.inside.regions.items c.self.inside.starts.items c.args.self.now c.args.id c.args.from c.args.count c.requires) c.self.inside.starts.ok.0 c.index-first.ensures c.self.inside.regions.ok.0 c.index-region.ensures in
    let cut = cut_at c.self.inside.regions.items c.self.inside.starts.items c.args.self.now c.args.id c.index-first.result.now c.index-region.result.now c.args.from c.args.count at c.requires in
    let begins : c.index-region.result.now.first ≡ c.index-first.result.now = c.self.invariant.0.0.begins c.index-first.result.now c.index-region.result.now at.there at.live in
    let inside : c.index-region.result.now.first + c.index-region.result.now.pages ≤ length c.self.inside.regions.items = c.self.invariant.0.0.inside c.index-first.result.now c.index-region.result.now at.there at.live in
    record {
      part = λ r named. none_lower c.self.inside.regions.items c.self.inside.starts.items c.args.self.now c.args.id c.index-first.result.now c.index-region.result.now c.args.from c.args.count at (omega (arith, c.if-first-from.false, begins)) r named;
      start = tt;
      live = tt;
    }

pub returns-clause-others : goal.returns-clause-others
returns-clause-others c =
    let at : At c.self.inside.regions.items c.self.inside.starts.items c.args.self.now c.args.id c.index-first.result.now c.index-region.result.now = read_at c.self.inside.regions.items c.self.inside.ids.items c.self.inside.starts.items c.args.self.now c.args.id c.index-first.result.now _ _ c.index-region.result.now c.self.view_is c.self.invariant.1 (lives_cut c.self.inside.regions.items c.self.inside.starts.items c.args.self.now c.args.id c.args.from c.args.count c.requires) c.self.inside.starts.ok.0 c.index-first.ensures c.self.inside.regions.ok.0 c.index-region.ensures in
    let cut = cut_at c.self.inside.regions.items c.self.inside.starts.items c.args.self.now c.args.id c.index-first.result.now c.index-region.result.now c.args.from c.args.count at c.requires in
    let begins : c.index-region.result.now.first ≡ c.index-first.result.now = c.self.invariant.0.0.begins c.index-first.result.now c.index-region.result.now at.there at.live in
    let inside : c.index-region.result.now.first + c.index-region.result.now.pages ≤ length c.self.inside.regions.items = c.self.invariant.0.0.inside c.index-first.result.now c.index-region.result.now at.there at.live in
    let whole : (with_items c.self.inside.regions c.cut_pages.new.regions).items ≡ c.cut_pages.new.regions = with_items_is c.self.inside.regions c.cut_pages.new.regions (c.cut_pages.ensures.len ∙ (ap length c.deref_mut.ensures.value ∙ sym c.self.inside.regions.ok.0)) in
    let is : (with_items c.self.inside.regions c.cut_pages.new.regions).items ≡ with_cut c.self.inside.regions.items c.index-first.result.now c.args.from c.args.count = whole ∙ (c.cut_pages.ensures.regions ∙ ap (λ (l : List Region). with_cut l c.index-first.result.now c.args.from c.args.count) c.deref_mut.ensures.value) in
    let len : length (with_items c.self.inside.regions c.cut_pages.new.regions).items ≡ length c.self.inside.regions.items = ap length whole ∙ (c.cut_pages.ensures.len ∙ ap length c.deref_mut.ensures.value) in
    let more : c.args.from + c.args.count < c.index-region.result.now.first + c.index-region.result.now.pages = omega (arith, cut.last, c.if-end-region.false) in
    let read : c.index-upper.result.now ≡ get_or c.self.inside.ids.items (c.args.from + c.args.count) (length c.self.inside.regions.items) = get_or_read_under c.self.inside.ids.items (c.args.from + c.args.count) _ c.index-upper.result.now (length c.self.inside.regions.items) c.index-upper.ensures (omega (arith, more, inside, c.self.invariant.1.ids_len, c.self.inside.ids.ok.0)) c.self.inside.ids.ok.0 in
    let less : c.args.id < length c.self.inside.regions.items = omega (arith, id_within c.self.inside.regions.items c.self.inside.ids.items c.self.inside.starts.items c.args.id c.self.invariant.1 (lives_at c.self.inside.regions.items c.self.inside.starts.items c.args.self.now c.args.id c.self.view_is (lives_cut c.self.inside.regions.items c.self.inside.starts.items c.args.self.now c.args.id c.args.from c.args.count c.requires)), c.self.invariant.1.starts_len) in
    let swaps_raw : c.swap_starts.new.starts ≡ swap c.self.inside.starts.items c.args.id c.index-upper.result.now = c.swap_starts.ensures.starts ∙ ap (λ (l : List ℕ). swap l c.args.id c.index-upper.result.now) c.deref_mut-3.ensures.value in
    let swaps : (with_items c.self.inside.starts c.swap_starts.new.starts).items ≡ swap c.self.inside.starts.items c.args.id c.index-upper.result.now = with_items_is c.self.inside.starts c.swap_starts.new.starts (ap length swaps_raw ∙ (length-swap c.self.inside.starts.items c.args.id c.index-upper.result.now ∙ sym c.self.inside.starts.ok.0)) ∙ swaps_raw in
    others_swapped c.self.inside.regions.items _ c.self.inside.ids.items c.self.inside.starts.items _ c.args.self.now c.args.id c.index-first.result.now c.index-region.result.now c.args.from c.args.count c.index-upper.result.now at cut c.self.invariant.1 c.self.invariant.0.0 is len begins inside more less read swaps
