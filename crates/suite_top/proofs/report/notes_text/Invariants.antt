-- The lines of the notes so far.
use Rattle.std.proofs.Common.{◌≡◌, take, map}
use Rattle.std.specs.List.{flat_map}
use Rattle.call_log.specs.Values.{note_value}
use Rattle.call_log.specs.Programs.{paths_of}
use Rattle.suite_top.specs.Report.{note_text}
use Rattle.suite_top.proofs.report.notes_text.Given as goal

abbrev pub invariant-loop-note : goal.invariant-loop-note
invariant-loop-note l = l.text.items ≡ flat_map (note_text l.log (paths_of l.paths)) (map note_value (take l.note-index l.notes))
