-- What a trace says of the notes of a run, oldest first, where the programs have these paths.
use Rattle.std.specs.Prelude.{ℕ, Bool, if◌then◌else◌, List, [], ◌∷◌, ◌++◌, Option}
use Rattle.std.specs.List.{flat_map}
use Rattle.call_log.specs.Notes.{Note, call_note, load_note, end_note, stray_note}
use Rattle.call_log.specs.Lines.{line}
use Rattle.call_log.specs.Programs.{IsProgramBelow}
use Rattle.trace_text.specs.Lines.{trace_line}
use Rattle.trace_text.specs.Counts.{is_shown, shown_calls, counts_of, count_line}

-- a call that is shown by its trace line, and each other note by its own line
abbrev pub shown_text : Option ℕ → List (List ℕ) → Note → List ℕ
shown_text pid paths (call_note e) = if is_shown pid e then trace_line e else []
shown_text pid paths (load_note e) = line paths (load_note e)
shown_text pid paths (end_note p how) = line paths (end_note p how)
shown_text pid paths (stray_note p seen) = line paths (stray_note p seen)

-- the counts of the calls that are shown
abbrev pub counts_text : Option ℕ → List Note → List ℕ
counts_text pid notes = flat_map count_line (counts_of (shown_calls pid notes))

-- the notes, and behind them the counts if they are asked for
unfoldable pub trace_texts : Option ℕ → (counted : Bool) → List (List ℕ) → List Note → List ℕ
trace_texts pid counted paths notes = flat_map (shown_text pid paths) notes ++ (if counted then counts_text pid notes else [])

-- the load notes' programs are among the first n
abbrev pub AreProgramsBelow : ℕ → List Note → Type 0
AreProgramsBelow n [] = Unit {0}
AreProgramsBelow n (note ∷ notes) = IsProgramBelow n note × AreProgramsBelow n notes
