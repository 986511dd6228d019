-- The note alone is new.
use Rattle.std.proofs.Common.{List, ap, ◌∙◌, ◌∷◌}
use Rattle.call_log.specs.Notes.{Note, stray_note}
use Rattle.kept_parts.specs.Inside.{kept_of}
use Rattle.kept_parts.proofs.Replies.Outcomes.{noted_world}
use Rattle.kept_parts.proofs.kept.KeptParts.note_stray.Goals as goal

pub returns-clause-strays : goal.returns-clause-strays
returns-clause-strays c = λ a.
    let v = c.self.view_is in
    let note = stray_note c.args.pid c.args.access in
    let is =
    c.keep.ensures.notes
    ∙ ap (λ (ns : List Note). note ∷ ns) c.reserve.ensures.same in
    rw (← v) (noted_world a (kept_of c.self.inside) note c.keep.new.log.notes is)
