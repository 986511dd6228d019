-- The counts of the notes so far, by number.
use Rattle.std.proofs.Common.{◌≡◌, take, map}
use Rattle.call_log.specs.Values.{note_value}
use Rattle.trace_text.specs.Counts.{shown_calls, tally}
use Rattle.trace_text.proofs.counting.counts.Given as goal

abbrev pub invariant-loop-note : goal.invariant-loop-note
invariant-loop-note l = l.counts.entries ≡ tally (shown_calls l.pid (map note_value (take l.note-index l.notes)))
