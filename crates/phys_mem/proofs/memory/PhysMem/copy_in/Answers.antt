-- What the slots say holds after the copy.
use Rattle.std.proofs.Common.{refl}
use Rattle.phys_mem.proofs.AfterWrites.{in_array, set_kept}
use Rattle.phys_mem.proofs.memory.PhysMem.copy_in.Goals as goal

pub invariant_of-self : goal.invariant_of-self
invariant_of-self c =
    let inside = in_array c.self.inside.bytes.items c.args.self.now c.args.at c.place_of-place.result _ c.self.view_is c.place_of-place.ensures c.requires in
    rw (c.copy_over.ensures) (set_kept _ c.args.at c.place_of-place.result _ c.args.bytes.now _ _ c.place_of-place.ensures c.requires.0 refl inside c.self.invariant.0 c.self.invariant.1 c.forget.ensures)
