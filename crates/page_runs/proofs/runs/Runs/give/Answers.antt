use Rattle.std.proofs.Common.{◌≡◌, ◌+◌, ◌≤◌, length, arith, ap}
use Rattle.page_runs.specs.Free.{Free}
use Rattle.page_runs.proofs.Changes.{all_spaced, taken_inside, begins_after, grown, room, with_free_is}
use Rattle.page_runs.proofs.Spacing.{spaced_le}
use Rattle.page_runs.proofs.runs.Runs.give.Goals as goal

pub index_of-at-requires : goal.index_of-at-requires
index_of-at-requires c = rw c.deref.ensures.value (all_spaced (record { pages = c.self.inside.pages; runs = c.self.inside.runs.items }) c.self.invariant.0 c.self.invariant.1.0)

pub meets_below-from-requires-clause-spaced : goal.meets_below-from-requires-clause-spaced
meets_below-from-requires-clause-spaced c = rw c.deref-2.ensures.value (all_spaced (record { pages = c.self.inside.pages; runs = c.self.inside.runs.items }) c.self.invariant.0 c.self.invariant.1.0)

pub meets_above-to-requires-clause-spaced : goal.meets_above-to-requires-clause-spaced
meets_above-to-requires-clause-spaced c = rw c.deref-3.ensures.value (all_spaced (record { pages = c.self.inside.pages; runs = c.self.inside.runs.items }) c.self.invariant.0 c.self.invariant.1.0)

pub meets_above-to-requires-clause-after : goal.meets_above-to-requires-clause-after
meets_above-to-requires-clause-after c = λ run is.
    let there = rw c.deref-3.ensures.value at is in
    let index = rw c.deref.ensures.value at c.index_of-at.ensures.above in
    let taken = taken_inside (record { pages = c.self.inside.pages; runs = c.self.inside.runs.items }) c.args.self.now c.args.first c.args.count c.self.view_is c.requires.taken in
    begins_after (c.self.inside.pages + 1) c.self.inside.runs.items c.index_of-at.result c.args.first c.args.count run c.self.invariant.0.spaced there taken (index c.index_of-at.result run (omega arith) there)

pub overflow_add-run-2 : goal.overflow_add-run-2
overflow_add-run-2 c =
    let pages : c.self.inside.pages ≡ c.args.self.now.pages = ap (λ (f : Free). f.pages) c.self.view_is in
    let above = rw c.deref-3.ensures.value at c.meets_above-to.ensures in
    let after = spaced_le 1 (c.args.first + c.args.count + c.meets_above-to.result.1 + 1) (c.self.inside.pages + 1) _
    (above.spaced (c.self.inside.pages + 1) c.self.invariant.0.spaced (omega arith)) in
    let few : c.self.inside.pages ≤ 16384 = c.self.invariant.1.0 in
    omega (arith, c.meets_below-from.ensures.some)

pub replace-requires-clause-room : goal.replace-requires-clause-room
replace-requires-clause-room c = λ same.
    let pages : c.self.inside.pages ≡ c.args.self.now.pages = ap (λ (f : Free). f.pages) c.self.view_is in
    let below = rw c.deref-2.ensures.value at c.meets_below-from.ensures in
    let above = rw c.deref-3.ensures.value at c.meets_above-to.ensures in
    let more = grown (record { pages = c.self.inside.pages; runs = c.self.inside.runs.items }) c.index_of-at.result c.args.first c.args.count
    c.meets_below-from.result.1 c.meets_above-to.result.1 c.meets_below-from.result.0 c.meets_above-to.result.0 c.self.invariant.0 (omega arith) (omega arith) below above in
    let bound : c.meets_below-from.result.0 ≤ length c.self.inside.runs.items = omega (arith, above.bound) in
    room (record { pages = c.self.inside.pages; runs = c.self.inside.runs.items }) _ c.args.first c.args.count c.meets_below-from.result.0 c.meets_above-to.result.0 _ _ same bound more c.self.inside.runs.ok.0 c.self.invariant.1.1

pub invariant_of-self : goal.invariant_of-self
invariant_of-self c =
    let pages : c.self.inside.pages ≡ c.args.self.now.pages = ap (λ (f : Free). f.pages) c.self.view_is in
    let below = rw c.deref-2.ensures.value at c.meets_below-from.ensures in
    let above = rw c.deref-3.ensures.value at c.meets_above-to.ensures in
    let more = grown (record { pages = c.self.inside.pages; runs = c.self.inside.runs.items }) c.index_of-at.result c.args.first c.args.count
    c.meets_below-from.result.1 c.meets_above-to.result.1 c.meets_below-from.result.0 c.meets_above-to.result.0 c.self.invariant.0 (omega arith) (omega arith) below above in
    rw c.replace.ensures.items (more.free, (c.self.invariant.1.0, omega (arith, c.self.invariant.1.1, c.replace.ensures.room)))

pub returns : goal.returns
returns c =
    let pages : c.self.inside.pages ≡ c.args.self.now.pages = ap (λ (f : Free). f.pages) c.self.view_is in
    let below = rw c.deref-2.ensures.value at c.meets_below-from.ensures in
    let above = rw c.deref-3.ensures.value at c.meets_above-to.ensures in
    let more = grown (record { pages = c.self.inside.pages; runs = c.self.inside.runs.items }) c.index_of-at.result c.args.first c.args.count
    c.meets_below-from.result.1 c.meets_above-to.result.1 c.meets_below-from.result.0 c.meets_above-to.result.0 c.self.invariant.0 (omega arith) (omega arith) below above in
    rw c.replace.ensures.items (with_free_is (record { pages = c.self.inside.pages; runs = c.self.inside.runs.items }) c.args.self.now _ c.args.first c.args.count c.self.view_is more)
