use Rattle.mmap_rules.proofs.space.Space.brk.Goals.{then-self-to+then-to-self, else-self-to}
use Rattle.mmap_rules.proofs.space.Space.brk.Goals as goal

pub invariant_of-self : goal.invariant_of-self
invariant_of-self c =
    elim c.if-self-to.branch [
      | then-self-to+then-to-self w ↦ rw w.self-inside-is c.self.invariant
      | else-self-to w ↦ rw w.self-inside-is c.self.invariant
    ]
