-- The notes so far.
use Rattle.std.proofs.Common.{◌≡◌, take, map}
use Rattle.std.specs.List.{flat_map}
use Rattle.call_log.specs.Values.{note_value}
use Rattle.call_log.specs.Programs.{paths_of}
use Rattle.trace_text.specs.Texts.{shown_text}
use Rattle.trace_text.proofs.texts.trace_texts.Given as goal

abbrev pub invariant-loop-note : goal.invariant-loop-note
invariant-loop-note l = l.text.items ≡ flat_map (shown_text l.pid (paths_of l.paths)) (map note_value (take l.note-index l.notes))
