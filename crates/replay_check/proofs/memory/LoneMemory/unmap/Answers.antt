use Rattle.std.proofs.Common.{◌*◌, sym, ap, ◌∙◌, arith}
use Rattle.std.specs.Prelude.{position}
use Rattle.mmap_rules.proofs.Hits.{first_passes}
use Rattle.flat_loader.specs.Alone.{is_exact, can_cut}
use Rattle.replay_check.specs.Ranges.{own_memory}
use Rattle.replay_check.proofs.CutRanges.{lone_left}
use Rattle.replay_check.proofs.Unmapping.{refuses, leaves, none_asked, on_no_page, exact_leaves, cut_leaves, nothing_leaves, first_there, cut_begins}
use Rattle.replay_check.proofs.memory.LoneMemory.unmap.Goals as goal
use Rattle.replay_check.proofs.memory.LoneMemory.unmap.Goals.{then-len-eq0-via-then-len-eq0, then-len-eq0-via-else-len-eq0+then-addr-ne0}

pub returns-then-len-eq0 : goal.returns-then-len-eq0
returns-then-len-eq0 c =
    let m = own_memory c.args.self.now in
    elim c.then-len-eq0.branch [
      | then-len-eq0-via-then-len-eq0 w ↦ refuses _ m (none_asked m c.args.addr c.args.len w.if-len-eq0.true)
      | then-len-eq0-via-else-len-eq0+then-addr-ne0 w ↦ refuses _ m (on_no_page m c.args.addr c.args.len w.if-addr-ne0.true)
    ]

pub returns-in-Some : goal.returns-in-Some
returns-in-Some c =
    let s = c.self.inside in
    rw (← c.self.view_is) (leaves _ _ (exact_leaves s.ranges.items s.owners s.mem c.self.invariant c.args.addr c.args.len c.pages_for-pages.result c.if-len-eq0.false c.if-addr-ne0.false c.pages_for-pages.ensures c.in-Some.place c.take_range.new.ranges.items (ap (position (is_exact c.args.addr (4096 * c.pages_for-pages.result))) (sym c.deref.ensures.value) ∙ sym c.place_of_exact.ensures ∙ c.in-Some.is) c.take_range.ensures.ranges))

pub returns-in_default-place_of_cut : goal.returns-in_default-place_of_cut
returns-in_default-place_of_cut c =
    let s = c.self.inside in
    rw (← c.self.view_is) (refuses _ _ (nothing_leaves s.ranges.items s.owners s.mem c.self.invariant c.args.addr c.args.len c.pages_for-pages.result c.if-len-eq0.false c.if-addr-ne0.false c.pages_for-pages.ensures (ap (position (is_exact c.args.addr (4096 * c.pages_for-pages.result))) (sym c.deref.ensures.value) ∙ sym c.place_of_exact.ensures ∙ c.in_default.is) (ap (position (can_cut c.args.addr (4096 * c.pages_for-pages.result))) (sym c.deref-2.ensures.value) ∙ sym c.place_of_cut.ensures ∙ c.in_default-place_of_cut.is)))

pub cut_range-requires-clause-cuts : goal.cut_range-requires-clause-cuts
cut_range-requires-clause-cuts c =
    let s = c.self.inside in
    let first = first_passes (can_cut c.args.addr (4096 * c.pages_for-pages.result)) s.ranges.items c.in-Some-place_of_cut.place (ap (position (can_cut c.args.addr (4096 * c.pages_for-pages.result))) (sym c.deref-2.ensures.value) ∙ sym c.place_of_cut.ensures ∙ c.in-Some-place_of_cut.is) in
    record {
      begins = c.if-addr-ne0.false;
      some = (let asked = c.if-len-eq0.false in let count = c.pages_for-pages.ensures in omega (arith, asked, count));
      there = first.within;
      can = first.passes;
    }

pub invariant_of-self-2 : goal.invariant_of-self-2
invariant_of-self-2 c =
    let s = c.self.inside in
    let place = c.in-Some-place_of_cut.place in
    let t = first_there (can_cut c.args.addr (4096 * c.pages_for-pages.result)) s.ranges.items place (ap (position (can_cut c.args.addr (4096 * c.pages_for-pages.result))) (sym c.deref-2.ensures.value) ∙ sym c.place_of_cut.ensures ∙ c.in-Some-place_of_cut.is) in
    lone_left s.ranges.items s.owners s.mem c.self.invariant c.cut_range.new.owners c.cut_range.new.ranges.items _ place t.item t.there (cut_begins s.ranges.items s.owners s.mem c.self.invariant c.args.addr (4096 * c.pages_for-pages.result) place t.item t.there t.passes)
    (c.in_ok-cut_range.ensures.ranges t.item t.there) c.cut_range.ensures.tabled

pub returns : goal.returns
returns c =
    let s = c.self.inside in
    let place = c.in-Some-place_of_cut.place in
    let t = first_there (can_cut c.args.addr (4096 * c.pages_for-pages.result)) s.ranges.items place (ap (position (can_cut c.args.addr (4096 * c.pages_for-pages.result))) (sym c.deref-2.ensures.value) ∙ sym c.place_of_cut.ensures ∙ c.in-Some-place_of_cut.is) in
    rw (← c.self.view_is) (leaves _ _ (cut_leaves s.ranges.items s.owners s.mem c.self.invariant c.args.addr c.args.len c.pages_for-pages.result c.if-len-eq0.false c.if-addr-ne0.false c.pages_for-pages.ensures place t.item c.cut_range.new.ranges.items (ap (position (is_exact c.args.addr (4096 * c.pages_for-pages.result))) (sym c.deref.ensures.value) ∙ sym c.place_of_exact.ensures ∙ c.in_default.is) (ap (position (can_cut c.args.addr (4096 * c.pages_for-pages.result))) (sym c.deref-2.ensures.value) ∙ sym c.place_of_cut.ensures ∙ c.in-Some-place_of_cut.is) t.there (c.in_ok-cut_range.ensures.ranges t.item t.there)))
