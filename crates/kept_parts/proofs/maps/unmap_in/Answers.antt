use Rattle.std.proofs.Common.{Some, refl, sym, subst, ◌∙◌}
use Rattle.std.proofs.lemmas.Option.{same_Some, get_or_from_slice_get}
use Rattle.mmap_rules.specs.Held.{Held, AreMappings}
use Rattle.mmap_rules.specs.MapState.{freed, unmapped, Unmaps}
use Rattle.kept_parts.proofs.maps.unmap_in.Goals as goal

pub returns : goal.returns
returns c = λ h there.
    let rs = c.args.regions.now.regions in
    let same = same_Some c.in-Some.space h (sym c.in-Some.is ∙ get_or_from_slice_get c.args.spaces.now c.args.number (Some h) c.index-spaces-number.result there) in
    record {
      held = c.unmap.new.self;
      spaces = refl;
      shaped = subst (λ (x : Held). AreMappings x.pages x.maps) same c.maps-mappings.ensures.mappings;
      unmaps = subst (λ (x : Held). Unmaps (unmapped x rs c.args.addr c.args.len) (freed x rs) (freed c.unmap.new.self c.unmap.new.regions.regions) c.unmap.result) same c.unmap.ensures.unmaps;
    }
