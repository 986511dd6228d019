-- What the call within all of memory leaves, as the parts of a run.
use Rattle.std.proofs.Common.{refl, sym, ◌∙◌}
use Rattle.syscall_layer.proofs.answer.serve_whole.Goals as goal

pub returns-clause-keeps : goal.returns-clause-keeps
returns-clause-keeps g c =
    let v = c.parts.view_is in
    rw (← v) (record { programs = refl; mode = refl; noted = c.parts.invariant.noted ∙ sym c.serve_within.ensures.keeps.notes })

pub returns-clause-behind : goal.returns-clause-behind
returns-clause-behind g c =
    let v = c.parts.view_is in
    let gives = rw c.deref.ensures.value at c.serve_within.ensures in
    let strayed = rw (← v) at c.requires.strayed in
    rw (← v) (record { memory = gives.comes.memory; unnoted = gives.told.unnoted; strayed = gives.keeps.notes ∙ strayed })

pub returns-clause-told : goal.returns-clause-told
returns-clause-told g c = record { yields = c.serve_within.ensures.told.yields; waits = λ is. c.serve_within.ensures.told.waits is c.parts.invariant.unmarked }
