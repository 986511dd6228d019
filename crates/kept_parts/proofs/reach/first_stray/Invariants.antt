-- None so far.
use Rattle.std.proofs.Common.{◌≡◌, take, map, None}
use Rattle.call_log.specs.Values.{note_value}
use Rattle.kept_parts.specs.Noted.{first_noted}
use Rattle.kept_parts.proofs.reach.first_stray.Given as goal

abbrev pub invariant-loop-note : goal.invariant-loop-note
invariant-loop-note l = first_noted (map note_value (take l.note-index l.notes)) ≡ None
