-- Which stray access was noted first.
use Rattle.std.specs.Prelude.{List, [], ◌∷◌, Option, Some, None}
use Rattle.byte_words.specs.declared.access.Access.{Access}
use Rattle.call_log.specs.Notes.{Note, call_note, load_note, end_note, stray_note}

-- the first stray access among notes that stand oldest first
abbrev pub first_noted : List Note → Option Access
first_noted [] = None
first_noted (call_note entry ∷ notes) = first_noted notes
first_noted (load_note load ∷ notes) = first_noted notes
first_noted (end_note pid how ∷ notes) = first_noted notes
first_noted (stray_note pid seen ∷ notes) = Some seen
