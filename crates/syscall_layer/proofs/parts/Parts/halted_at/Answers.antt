-- Where no stray access is marked as noted, the notes have none.
use Rattle.std.proofs.Common.{rules, ◌≡◌, false, sym, ◌∙◌}
use Rattle.memory_world.specs.Physical.{has_stray}
use Rattle.syscall_layer.proofs.Halted.{none_noted}
use Rattle.syscall_layer.proofs.parts.Parts.halted_at.Goals as goal

pub returns-else-self : goal.returns-else-self
returns-else-self c =
    let v = c.self.view_is in
    let unmarked : c.self.inside.noted ≡ false = search rules in
    let none : has_stray c.self.inside.kept.notes ≡ false = sym c.self.invariant.noted ∙ unmarked in
    rw (← v) (sym (none_noted c.self.inside.mode c.self.inside.kept.notes none))
