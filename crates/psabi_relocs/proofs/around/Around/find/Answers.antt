use Rattle.psabi_relocs.proofs.around.Around.find.Goals as goal

pub last_under-requires : goal.last_under-requires
last_under-requires c = rw c.deref.ensures.value c.self.invariant
