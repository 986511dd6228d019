-- The mappings of the space can be released, and what is left is regular.
use Rattle.std.proofs.Common.{◌≡◌, List, length, Option, None, sym, ap, ◌∙◌, arith}
use Rattle.std.specs.Prelude.{slice_get, slice_set}
use Rattle.std.specs.Vec.{with_items}
use Rattle.mmap_rules.specs.Held.{Held}
use Rattle.kept_parts.specs.Inside.{kept_of}
use Rattle.kept_parts.specs.Reach.{whole_table}
use Rattle.kept_parts.proofs.Ends.RegularWithout.{can_give_up}
use Rattle.kept_parts.proofs.Common.StaysRegular.{regular_ids}
use Rattle.kept_parts.proofs.Copies.BehindCalls.{copies_without}
use Rattle.kept_parts.proofs.Replies.Replied.{items_set}
use Rattle.kept_parts.proofs.Ends.Steps.{regular_given_up}
use Rattle.kept_parts.proofs.Copies.BehindStrays.{holds_inside, none_clean, cleaned, copies_clean}
use Rattle.kept_parts.proofs.kept.KeptParts.give_up.Goals as goal

pub release-requires : goal.release-requires
release-requires c = can_give_up (kept_of c.self.inside) c.args.number c.take_space-space.result c.self.invariant.0.0
    (sym (ap (λ (ss : List (Option Held)). slice_get ss c.args.number) c.deref_mut.ensures.value) ∙ c.take_space-space.ensures.space)

pub invariant_of-self : goal.invariant_of-self
invariant_of-self c =
    let k = kept_of c.self.inside in
    let there = sym (ap (λ (ss : List (Option Held)). slice_get ss c.args.number) c.deref_mut.ensures.value) ∙ c.take_space-space.ensures.space in
    let gone = c.take_space-space.ensures.gone ∙ ap (λ (ss : List (Option Held)). slice_set ss c.args.number None) c.deref_mut.ensures.value in
    let regular = regular_given_up c.args.self.now k c.self.view_is c.args.number c.take_space-space.result c.self.invariant.0.0 there c.requires.nobody
    c.release.new.regions.regions (with_items c.self.inside.spaces c.take_space-space.new.spaces).items c.release.ensures.released
    (items_set c.self.inside.spaces c.take_space-space.new.spaces c.args.number None gone) in
    let pages : length c.self.inside.regions.regions ≡ length c.release.new.regions.regions = omega (arith, c.self.invariant.0.0.memory, regular.memory) in (
      (
        regular_ids _ regular c.release.new.regions.starts,
        copies_without k c.self.invariant.0.1 c.take_space-space.result.maps c.release.new.regions.regions c.release.ensures.released,
      ),
      c.self.invariant.1,
      c.self.invariant.2 ∙ ap whole_table pages,
    )

pub returns-clause-holds : goal.returns-clause-holds
returns-clause-holds c = λ holds.
    let k = kept_of c.self.inside in
    let copies = copies_clean k c.self.invariant.0.1 (holds_inside k c.args.self.now c.self.view_is holds) in
    (copies_without (cleaned k) copies c.take_space-space.result.maps c.release.new.regions.regions c.release.ensures.released).hold (none_clean k.notes)
