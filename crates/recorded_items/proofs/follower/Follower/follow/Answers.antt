-- One note more, by its kind.
use Rattle.std.proofs.Common.{◌≡◌, ℕ, List, ◌∷◌, map, sym, ap, ◌∙◌, subst}
use Rattle.flat_loader.specs.Frame.{texts}
use Rattle.call_log.specs.Notes.{Note}
use Rattle.call_log.specs.Values.{entry_value, note_value}
use Rattle.items_text.specs.Values.{item_value}
use Rattle.recorded_items.specs.declared.follower.Follower.{Follower}
use Rattle.recorded_items.specs.Members.{AreMembers}
use Rattle.recorded_items.proofs.Told.{AreTold, becomes, call_told, call_untold, none_told}
use Rattle.recorded_items.proofs.follower.Follower.follow.Goals.{in-Call+then-has+in_ok-tell, in-Call+else-has, in_default}
use Rattle.recorded_items.proofs.follower.Follower.follow.Goals as goal

-- the members are the same, and the calls are told
abbrev IsTold : (space : ℕ) (all : List (List ℕ)) (old f : Follower) → List Note → Type 0
IsTold space all old f notes = (f.members ≡ old.members) × AreTold space all (map item_value f.items.items) (texts f.lists.now) notes

pub returns : goal.returns
returns c = λ space all notes h.
    let old = c.args.self.now in
    let items = map item_value old.items.items in
    let lists = texts old.lists.now in
    let before : AreTold space all items lists notes = record { told = h.items; left = h.lists } in
    let now : IsTold space all old c.match-note.self (note_value c.args.note.now ∷ notes) = elim c.match-note.branch as (λ x. IsTold space all old c.match-note.self (note_value c.args.note.now ∷ notes)) [
      | in-Call+then-has+in_ok-tell w ↦
          let e = entry_value w.in-Call.entry in
          let inside = sym (h.members.homes e.pid) ∙ sym w.has.ensures ∙ w.if-has.true in
          subst (λ f. IsTold space all old f (note_value c.args.note.now ∷ notes)) (sym w.self-is) (
            w.in_ok-tell.ensures.members,
            becomes w.in_ok-tell.ensures.items w.in_ok-tell.ensures.lists (ap note_value w.in-Call.is) (call_told space all items lists notes before e inside),
          )
      | in-Call+else-has w ↦
          let e = entry_value w.in-Call.entry in
          let outside = sym (h.members.homes e.pid) ∙ sym w.has.ensures ∙ w.if-has.false in
          subst (λ f. IsTold space all old f (note_value c.args.note.now ∷ notes)) (sym w.self-is)
          (λ i. old.members, becomes (λ i. items) (λ i. lists) (ap note_value w.in-Call.is) (call_untold space all items lists notes before e outside))
      | in_default w ↦
          subst (λ f. IsTold space all old f (note_value c.args.note.now ∷ notes)) (sym w.self-is)
          (λ i. old.members, none_told space all items lists notes before c.args.note.now w.in_default.not-Call)
    ] in
    record {
      members = c.in_ok-follow.ensures space notes (subst (λ m. AreMembers space m notes) (sym now.0) h.members);
      items = now.1.told;
      lists = now.1.left;
    }
