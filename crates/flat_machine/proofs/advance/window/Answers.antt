-- The window is the mapping's own range, or empty.
use Rattle.std.proofs.Common.{◌+◌, refl, ap, sym, ◌∙◌}
use Rattle.std.specs.Prelude.{Some}
use Rattle.std.proofs.lemmas.Option.{slice_get-get_or}
use Rattle.mmap_rules.specs.declared.mapping.Mapping.{Mapping}
use Rattle.mmap_rules.specs.Space.{may_use}
use Rattle.flat_machine.proofs.Windows.{mapping_used, fits_of}
use Rattle.flat_machine.proofs.advance.window.Goals as goal

pub returns-then-is_some : goal.returns-then-is_some
returns-then-is_some c =
    let m = c.in-Some.mapping.now in
    let v = c.maps.ensures.maps in
    let within = c.in-Some.ensures.lookup.3.0 in
    let is = slice_get-get_or c.maps.result.now c.args.at m within ∙ ap (λ (x : Mapping). Some x) (sym c.in-Some.ensures.lookup.1) in
    mapping_used c.args.space.now.maps c.args.at m (rw v at is) c.if-range.true
    (fits_of (m.range.from + m.range.size) (m.range.from + m.range.size) c.checked_add.result c.checked_add.ensures (sym c.is_some.ensures ∙ c.if-is_some.true))

pub returns-else-range : goal.returns-else-range
unfolding may_use
returns-else-range c = refl

pub returns-in_default : goal.returns-in_default
unfolding may_use
returns-in_default c = refl
