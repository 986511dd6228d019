use Rattle.std.proofs.Common.{◌≡◌, arith, sym}
use Rattle.std.proofs.lemmas.Option.{slice_get_within}
use Rattle.page_runs.proofs.Changes.{all_spaced, are_runs, left_by_cut, without_is, first_is, front_is_free}
use Rattle.page_runs.proofs.runs.Runs.take.Goals as goal

pub pick-requires-clause-runs : goal.pick-requires-clause-runs
pick-requires-clause-runs g c = rw c.deref.ensures.value (are_runs (record { pages = c.self.inside.pages; runs = c.self.inside.runs.items }) c.self.invariant.0 c.self.invariant.1.0)

pub cut_front-requires-clause-bound : goal.cut_front-requires-clause-bound
cut_front-requires-clause-bound g c =
    let place = rw c.deref.ensures.value at c.in_ok-i.ensures.rule in
    omega (arith, slice_get_within c.self.inside.runs.items c.in_ok-i.i place.run place.there, c.self.inside.runs.ok.0)

pub cut_front-requires-clause-spaced : goal.cut_front-requires-clause-spaced
cut_front-requires-clause-spaced g c = all_spaced (record { pages = c.self.inside.pages; runs = c.self.inside.runs.items }) c.self.invariant.0 c.self.invariant.1.0

pub invariant_of-self : goal.invariant_of-self
invariant_of-self g c =
    let place = rw c.deref.ensures.value at c.in_ok-i.ensures.rule in
    let left = left_by_cut (record { pages = c.self.inside.pages; runs = c.self.inside.runs.items }) c.in_ok-i.i c.args.need place.run c.self.invariant.0 place.there c.requires.need place.fits in
    rw c.cut_front.ensures.items (left.free, (c.self.invariant.1.0, omega (arith, c.self.invariant.1.1, c.cut_front.ensures.room)))

pub returns-clause-pages : goal.returns-clause-pages
returns-clause-pages g c =
    let place = rw c.deref.ensures.value at c.in_ok-i.ensures.rule in
    let left = left_by_cut (record { pages = c.self.inside.pages; runs = c.self.inside.runs.items }) c.in_ok-i.i c.args.need place.run c.self.invariant.0 place.there c.requires.need place.fits in
    let begins : c.cut_front.result ≡ place.run.first = first_is c.self.inside.runs.items c.in_ok-i.i c.cut_front.result place.run place.there c.cut_front.ensures.first in
    rw (c.cut_front.ensures.items, begins) (without_is (record { pages = c.self.inside.pages; runs = c.self.inside.runs.items }) c.args.self.now _ place.run.first c.args.need c.self.view_is left)

pub returns-clause-free : goal.returns-clause-free
returns-clause-free g c =
    let place = rw c.deref.ensures.value at c.in_ok-i.ensures.rule in
    let begins : c.cut_front.result ≡ place.run.first = first_is c.self.inside.runs.items c.in_ok-i.i c.cut_front.result place.run place.there c.cut_front.ensures.first in
    front_is_free (record { pages = c.self.inside.pages; runs = c.self.inside.runs.items }) c.args.self.now c.in_ok-i.i c.cut_front.result c.args.need place.run c.self.view_is place.there begins place.fits

pub returns-clause-gets : goal.returns-clause-gets
returns-clause-gets g c =
    let place = rw c.deref.ensures.value at c.in_ok-i.ensures.rule in
    let begins : c.cut_front.result ≡ place.run.first = first_is c.self.inside.runs.items c.in_ok-i.i c.cut_front.result place.run place.there c.cut_front.ensures.first in
    rw (← c.self.view_is) (record { i = c.in_ok-i.i; place = place; begins = sym begins })
