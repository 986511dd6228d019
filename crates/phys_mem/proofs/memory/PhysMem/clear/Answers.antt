-- What the slots say holds after the bytes are zero.
use Rattle.phys_mem.proofs.AfterWrites.{in_array, set_kept}
use Rattle.std.proofs.lemmas.List.{length-replicate}
use Rattle.phys_mem.proofs.memory.PhysMem.clear.Goals as goal

pub invariant_of-self : goal.invariant_of-self
invariant_of-self c =
    let inside = in_array c.self.inside.bytes.items c.args.self.now c.args.at c.place_of-place.result _ c.self.view_is c.place_of-place.ensures c.requires in
    rw (c.zero.ensures)
    (set_kept _ c.args.at c.place_of-place.result _ _ _ _ c.place_of-place.ensures c.requires.0 (length-replicate c.args.len 0) inside c.self.invariant.0 c.self.invariant.1 c.forget.ensures)
