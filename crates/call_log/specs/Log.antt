-- The log as contracts see it, and what a push does.
use Rattle.std.specs.Prelude.{◌≡◌, ℕ, ◌-◌, Bool, true, false, List, ◌∷◌, Result, Ok, Err, ⊤}
use Rattle.call_log.specs.declared.log.LogFault.{LogFault}
use Rattle.call_log.specs.declared.log.LogFault.TheVariants.{Full, Memory}
use Rattle.call_log.specs.Notes.{Note, call_note, load_note, end_note, stray_note, weight_of, has_room}

-- the notes, newest first, and for how many more memory is kept ready
pub record KeptNotes : Type 0 where
  pub notes : List Note
  pub spare : ℕ

-- a note may be kept: a call where there is room for its bytes, and any other note
abbrev pub may_keep : List Note → Note → Bool
may_keep notes (call_note entry) = has_room notes (weight_of entry.sent entry.got)
may_keep notes (load_note entry) = true
may_keep notes (end_note pid how) = true
may_keep notes (stray_note pid seen) = true

abbrev pub Pushes : KeptNotes → Note → KeptNotes → Result ⊤ LogFault → Type 0
Pushes old note new (Ok done) = (may_keep old.notes note ≡ true) × (new.notes ≡ note ∷ old.notes) × (new.spare ≡ old.spare - 1)
Pushes old note new (Err Full) = (may_keep old.notes note ≡ false) × (new ≡ old)
Pushes old note new (Err Memory) = (may_keep old.notes note ≡ true) × (old.spare ≡ 0) × (new ≡ old)
