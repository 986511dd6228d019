-- What is recorded of one space behind an event, and the room that the log has beside it.
use Rattle.std.specs.Prelude.{ℕ, Bool, if◌then◌else◌, List, [], ◌++◌, Option, Some, None, option_map, Vec}
use Rattle.flat_loader.specs.Frame.{texts}
use Rattle.byte_words.specs.ByteMap.{Bytes}
use Rattle.call_log.specs.Notes.{CallEntry, has_room}
use Rattle.machine_world.specs.World.{Launch, Recording}
use Rattle.machine_world.specs.Recordings.{is_recorded, raised_in, with_brought}
use Rattle.machine_world.specs.Event.{lists_brought}
use Rattle.kept_parts.specs.Kept.{Kept}

-- an event in a space, and no wait
abbrev pub event_recorded : Recording → ℕ → Recording
event_recorded r space = record r { events = raised_in r space 1 }

-- a call in it, and what its mapping of a file brought
abbrev pub call_recorded : Recording → ℕ → CallEntry → Bytes → Recording
call_recorded r space e m = record r {
  events = raised_in r space 1;
  brought = r.brought ++ (if is_recorded r space then lists_brought e m else []);
}

-- a program is loaded into a new space
abbrev pub program_recorded : Recording → ℕ → Launch → Recording
program_recorded r space launch = record r { launch = if is_recorded r space then Some launch else r.launch }

-- the arguments of a program that starts, copied for the recording
abbrev pub args_of : {Y Z : Type 0} → Option (Vec (Vec ℕ Z) Y) → Option (List (List ℕ))
args_of copies = option_map (λ strings. texts strings.items) copies

abbrev pub args_in : Recording → ℕ → List (List ℕ) → Option (List (List ℕ))
args_in r space strings = if is_recorded r space then Some strings else None

-- there is room for so many bytes beside all that was brought
abbrev pub room_beside : Kept → ℕ → Bool
room_beside k bytes = has_room k.notes (with_brought k.recording.brought bytes)
