-- All is zero, and no word is kept.
use Rattle.phys_mem.proofs.AfterWrites.{new_kept}
use Rattle.phys_mem.proofs.memory.PhysMem.new.Goals as goal

pub invariant_of-result : goal.invariant_of-result
invariant_of-result c = new_kept c.args.pages _ _ c.requires.some c.requires.most c.in_ok-zeros.ensures c.in_ok-no_words.ensures
