-- What the slots say holds after the write.
use Rattle.phys_mem.proofs.AfterWrites.{in_array, set_kept}
use Rattle.byte_words.proofs.ByteArrays.{length-little_bytes}
use Rattle.phys_mem.proofs.memory.PhysMem.set.Goals as goal

pub invariant_of-self : goal.invariant_of-self
invariant_of-self c =
    let inside = in_array c.self.inside.bytes.items c.args.self.now c.args.at c.place_of-place.result _ c.self.view_is c.place_of-place.ensures c.requires.within in
    rw (c.write.ensures)
    (set_kept _ c.args.at c.place_of-place.result _ _ _ _ c.place_of-place.ensures c.requires.within.0 (length-little_bytes c.args.len c.args.value) inside c.self.invariant.0 c.self.invariant.1 c.forget_number.ensures)
