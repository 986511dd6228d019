-- What a run records of one space beside the notes, for who checks that space's program alone, and the room in the log that is left
-- with it.
use Rattle.std.specs.Prelude.{ℕ, zero, suc, ◌+◌, ◌==◌, Bool, false, nat_lt, if◌then◌else◌, List, [], ◌∷◌, length, Some, None}
use Rattle.call_log.specs.Notes.{has_room}
use Rattle.flat_loader.specs.Begin.{Loading}
use Rattle.machine_world.specs.World.{Launch, Recording, World}

-- before the first program is loaded
abbrev pub nothing_recorded : ℕ → Recording
nothing_recorded keep = record { keep = keep; launch = None; events = 0; brought = [] }

-- load notes are counted from 1, and spaces from 0
abbrev pub is_kept : ℕ → ℕ → Bool
is_kept zero space = false
is_kept (suc keep) space = keep == space

-- the space of this number is the one that is recorded
abbrev pub is_recorded : Recording → ℕ → Bool
is_recorded r space = is_kept r.keep space

-- ---- its program

abbrev pub launch_of : ℕ → Loading → Launch
launch_of pid l = record { stack = l.original.stack; base = l.block; pid = pid; args = l.args; env = l.env }

-- a program is loaded into a new space
abbrev pub launched : ℕ → ℕ → Loading → Recording → Recording
launched space pid l r = record r { launch = if is_recorded r space then Some (launch_of pid l) else r.launch }

-- ---- its events

-- the most that 64 bits count
abbrev pub most_count : ℕ
most_count = 0xffffffffffffffff

-- so many more, up to the most
abbrev pub raised : ℕ → ℕ → ℕ
raised zero count = count
raised (suc n) count = raised n (if nat_lt count most_count then suc count else count)

-- so many events in a space
abbrev pub raised_in : Recording → ℕ → ℕ → ℕ
raised_in r space n = raised (if is_recorded r space then n else 0) r.events

abbrev pub passed : ℕ → ℕ → World → World
passed space n w = record w { recording = record w.recording { events = raised_in w.recording space n } }

-- ---- what its mappings brought

-- so many bytes, and all that were brought
abbrev pub with_brought : List (List ℕ) → ℕ → ℕ
with_brought [] weight = weight
with_brought (bytes ∷ more) weight = length bytes + with_brought more weight

-- the log has room for so many bytes beside those that were brought
abbrev pub room_in : World → ℕ → Bool
room_in w weight = has_room w.notes (with_brought w.recording.brought weight)
