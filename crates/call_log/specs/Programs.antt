-- The paths of programs, and the notes that have one.
use Rattle.std.specs.Prelude.{ℕ, ◌<◌, List, map, Vec}
use Rattle.call_log.specs.Notes.{Note, call_note, load_note, end_note, stray_note}

abbrev pub paths_of : {Y : Type 0} → List (Vec ℕ Y) → List (List ℕ)
paths_of paths = map (λ path. path.items) paths

-- a load note's program is one of the first n
abbrev pub IsProgramBelow : ℕ → Note → Type 0
IsProgramBelow n (call_note e) = Unit {0}
IsProgramBelow n (load_note e) = e.program < n
IsProgramBelow n (end_note pid how) = Unit {0}
IsProgramBelow n (stray_note pid seen) = Unit {0}
