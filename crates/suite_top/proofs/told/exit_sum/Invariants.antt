-- The sum of the notes so far, each of which adds a byte at most.
use Rattle.std.proofs.Common.{◌≡◌, ◌≤◌, ◌*◌, take, map}
use Rattle.std.specs.Prelude.{sum_by}
use Rattle.call_log.specs.Values.{note_value}
use Rattle.suite_top.specs.Telling.{exit_code}
use Rattle.suite_top.proofs.told.exit_sum.Given as goal

abbrev pub invariant-loop-note : goal.invariant-loop-note
invariant-loop-note l = (l.sum ≡ sum_by exit_code (map note_value (take l.note-index l.notes))) × (l.sum ≤ 255 * l.note-index)
