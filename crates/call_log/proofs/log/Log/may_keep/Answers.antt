-- A count of bytes that is cut has no room either.
use Rattle.std.proofs.Common.{◌∙◌, ap, sym}
use Rattle.call_log.specs.Notes.{has_room, weight_of}
use Rattle.call_log.specs.Log.{may_keep}
use Rattle.call_log.specs.Values.{note_value, entry_value}
use Rattle.call_log.proofs.Room.{many_bytes}
use Rattle.call_log.proofs.log.Log.may_keep.Goals as goal

pub returns-in-Call : goal.returns-in-Call
returns-in-Call c =
    let notes = c.args.self.now.notes in
    let entry = entry_value c.in-Call.entry in
    c.room.ensures ∙ ap (has_room notes) c.weight.ensures ∙ many_bytes notes (weight_of entry.sent entry.got) ∙ ap (λ n. may_keep notes (note_value n)) (sym c.in-Call.is)
