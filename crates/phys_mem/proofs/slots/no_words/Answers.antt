-- Copies of an empty slot are empty slots.
use Rattle.phys_mem.proofs.slots.no_words.Goals as goal

pub returns : goal.returns
returns c = c.in_ok-vec.ensures.items_if_clones_equal (λ y is. is)
