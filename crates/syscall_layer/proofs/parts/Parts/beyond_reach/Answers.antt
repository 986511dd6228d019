-- By the mode in which the run watches its events.
use Rattle.std.proofs.Common.{refl, sym, ap, ◌∙◌}
use Rattle.syscall_layer.proofs.CallsKeep.{parts_with}
use Rattle.syscall_layer.proofs.CallsOn.{own_reach, whole_reach, parts_unchanged}
use Rattle.syscall_layer.proofs.parts.Parts.beyond_reach.Goals as goal

pub invariant_of-self : goal.invariant_of-self
invariant_of-self c = record {
  noted = c.self.invariant.noted ∙ sym c.beyond_reach.ensures.keeps.notes;
  unmarked = c.beyond_reach.ensures.keeps.marks c.self.invariant.unmarked;
}

pub returns-clause-keeps : goal.returns-clause-keeps
returns-clause-keeps c =
    let v = c.self.view_is in
    rw (← v) (record { programs = refl; mode = refl; noted = c.self.invariant.noted ∙ sym c.beyond_reach.ensures.keeps.notes })

pub returns-clause-strays : goal.returns-clause-strays
returns-clause-strays c =
    let v = c.self.view_is in
    let i = c.self.inside in
    let strayed = rw (← v) at c.watch_mode-mode.ensures.strayed in
    rw (← v) (λ quiet.
    let same = c.beyond_reach.ensures.strays (own_reach c.watch_mode-mode.result (sym strayed ∙ quiet)) in
    (same.0, ap (parts_with i.programs.items i.mode i.noted) same.1))

pub returns-clause-memory : goal.returns-clause-memory
returns-clause-memory c =
    let v = c.self.view_is in
    let strayed = rw (← v) at c.watch_mode-mode.ensures.strayed in
    rw (← v) (λ noted. c.beyond_reach.ensures.memory (whole_reach c.watch_mode-mode.result (sym strayed ∙ noted)))

pub returns-clause-ends : goal.returns-clause-ends
returns-clause-ends c =
    let v = c.self.view_is in
    let strayed = rw (← v) at c.watch_mode-mode.ensures.strayed in
    rw (← v) (λ noted. c.beyond_reach.ensures.ends (whole_reach c.watch_mode-mode.result (sym strayed ∙ noted)))

pub returns-clause-unchanged : goal.returns-clause-unchanged
returns-clause-unchanged c =
    let v = c.self.view_is in
    let i = c.self.inside in
    rw (← v) (parts_unchanged c.beyond_reach.result i.programs.items i.mode i.noted i.kept c.beyond_reach.new.parts c.beyond_reach.ensures.unchanged)
