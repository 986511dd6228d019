-- What the event gives behind the note. Out of memory the note stands, and is taken back.
use Rattle.std.proofs.Common.{◌≡◌, refl, sym, ap, subst, rules, ◌∙◌}
use Rattle.std.specs.Result.{IsErr}
use Rattle.memory_world.specs.Physical.{has_stray}
use Rattle.kept_parts.specs.InMemory.{without_newest}
use Rattle.kept_parts.specs.Kept.{Kept}
use Rattle.kept_parts.specs.Regular.{IsRegular}
use Rattle.syscall_layer.specs.Events.{GivesParts}
use Rattle.syscall_layer.specs.Inside.{parts_of}
use Rattle.syscall_layer.specs.Parts.{RunParts, noted_by}
use Rattle.syscall_layer.proofs.CallsOn.{of_err, on_err, on_ok}
use Rattle.syscall_layer.proofs.parts.Parts.behind_note.Given.{Over}
use Rattle.syscall_layer.proofs.parts.Parts.behind_note.Goals.{After-event-done, After-take_back}
use Rattle.syscall_layer.proofs.parts.Parts.behind_note.Goals as goal

gave : (g : Over) (c : After-event-done g)
    → GivesParts g.F.FnOnce c.args.event (noted_by c.args.pid c.args.access c.args.self.now) c.args.beside.now c.event-done.result c.event-done.new.arg2 c.event-done.new.arg3
gave g c = record { parts = _; beside = _; shows = (c.in_ok-note_stray.ensures.kept, refl); left = _; met = c.event-done.ensures; leaves = (refl, refl) }

kept : (g : Over) (c : After-event-done g) → IsErr c.event-done.result
    → (c.event-done.new.arg2 ≡ noted_by c.args.pid c.args.access c.args.self.now) × (c.event-done.new.arg3 ≡ c.args.beside.now)
kept g c is = of_err _ c.event-done.result is (c.requires.keeps _ _ _ (gave g c))

back : (g : Over) (c : After-take_back g) → c.event-done.new.arg2 ≡ noted_by c.args.pid c.args.access c.args.self.now → c.take_back.new.self ≡ c.self.inside.kept
back g c noted =
    c.take_back.ensures ∙ ap (λ (p : RunParts). without_newest p.kept) (c.self-2.view_is ∙ noted) ∙ sym (ap (λ (p : RunParts). p.kept) c.self.view_is)

sound : (mid noted left now : RunParts) → mid ≡ noted → left ≡ noted → now ≡ left → IsRegular (without_newest mid.kept) → IsRegular (without_newest now.kept)
sound mid noted left now is same shown x =
    let P : RunParts → Type 0 = λ p. IsRegular (without_newest p.kept) in
    subst P (sym shown) (subst P (sym same) (subst P is x))

pub take_back-requires : goal.take_back-requires
take_back-requires g c =
    let is : IsErr c.event-done.result = search rules in
    sound c.note_stray.new.self (noted_by c.args.pid c.args.access c.args.self.now) c.event-done.new.arg2 (parts_of c.self-2.inside)
    c.in_ok-note_stray.ensures.kept (kept g (goal.at.take_back-requires g c).After-event-done is).0 c.self-2.view_is c.in_ok-note_stray.ensures.sound

pub invariant_of-self : goal.invariant_of-self
invariant_of-self g c =
    let is : IsErr c.event-done.result = search rules in
    let at = goal.at.invariant_of-self g c in
    let same = back g at.After-take_back (kept g at.After-event-done is).0 in
    record {
      noted = c.self.invariant.noted ∙ sym (ap (λ (k : Kept). has_stray k.notes) same);
      unmarked = ap (λ (k : Kept). k.files.changed) same ∙ c.self.invariant.unmarked;
    }

pub returns-then-is_err-clause-unchanged : goal.returns-then-is_err-clause-unchanged
returns-then-is_err-clause-unchanged g c =
    let is : IsErr c.event-done.result = search rules in
    let at = goal.at.returns-then-is_err-clause-unchanged g c in
    let noted = (kept g at.After-event-done is).0 in
    let v = c.self.view_is in
    let left = c.self-2.view_is ∙ noted in
    let same = back g at.After-take_back noted ∙ ap (λ (p : RunParts). p.kept) v in
    on_err _ c.event-done.result (λ i. record {
      kept = same i;
      programs = (left i).programs;
      mode = (left i).mode;
      noted = (v i).noted;
    })

pub returns-then-is_err-clause-beside : goal.returns-then-is_err-clause-beside
returns-then-is_err-clause-beside g c =
    let is : IsErr c.event-done.result = search rules in
    on_err _ c.event-done.result (kept g (goal.at.returns-then-is_err-clause-beside g c).After-event-done is).1

pub returns-else-is_err-clause-gives : goal.returns-else-is_err-clause-gives
returns-else-is_err-clause-gives g c = on_ok _ c.event-done.result (gave g (goal.at.returns-else-is_err-clause-gives g c).After-event-done)
