-- The items of the space that is recorded: its calls by the notes, and what its mappings of files brought by the recording.
use Rattle.std.specs.Prelude.{◌≡◌, ℕ, ◌≤◌, true, false, if◌then◌else◌, List, [], ◌∷◌, Option, Some, None, option_map, slice_get}
use Rattle.call_log.specs.Notes.{CallEntry}
use Rattle.flat_loader.specs.Alone.{Item}
use Rattle.machine_world.specs.World.{Launch, Recording, World}
use Rattle.machine_world.specs.Recordings.{is_recorded, launch_of, most_count, raised}
use Rattle.machine_world.specs.Event.{maps_file, plain_item}
use Rattle.alone_laws.specs.Stays.{Stay}
use Rattle.recording_laws.specs.Homes.{calls_at, items_of, AreAtHome}

-- ---- by notes and recording

abbrev pub first_list : List (List ℕ) → List ℕ
first_list [] = []
first_list (bytes ∷ lists) = bytes

abbrev pub other_lists : List (List ℕ) → List (List ℕ)
other_lists [] = []
other_lists (bytes ∷ lists) = lists

-- calls, of which each that maps a file has the next list
unfoldable pub with_lists : List CallEntry → List (List ℕ) → List Item
with_lists [] lists = []
with_lists (e ∷ calls) lists =
    if maps_file e then record { entry = e; brought = first_list lists } ∷ with_lists calls (other_lists lists)
    else plain_item e ∷ with_lists calls lists

-- the items of the space of this number
abbrev pub recorded_items : ℕ → World → List Item
recorded_items i w = with_lists (calls_at i w.notes) w.recording.brought

-- ---- by the stay

abbrev pub launch_in : Stay → Launch
launch_in y = launch_of y.pid y.loading

abbrev pub events_of : Option Stay → ℕ
events_of None = 0
events_of (Some y) = y.events

-- what its mappings of files brought, one by one
abbrev pub lists_of : List Item → List (List ℕ)
lists_of [] = []
lists_of (i ∷ items) = if maps_file i.entry then i.brought ∷ lists_of items else lists_of items

-- no other call brought anything
abbrev pub ArePlain : List Item → Type 0
ArePlain [] = Unit {0}
ArePlain (i ∷ items) = (maps_file i.entry ≡ false → i.brought ≡ []) × ArePlain items

-- what is recorded is that of a stay, if there is one
pub record FollowsStay (o : Option Stay) (r : Recording) : Type 0 where
  pub launch : r.launch ≡ option_map launch_in o
  pub events : r.events ≡ raised (events_of o) 0
  pub lists : r.brought ≡ lists_of (items_of o)
  pub plain : ArePlain (items_of o)

-- the notes tell of each space, and the recording of its own one
pub record AreRecorded (ys : List Stay) (w : World) : Type 0 where
  pub home : AreAtHome ys w
  pub counted : (i : ℕ) (y : Stay) → slice_get ys i ≡ Some y → y.events ≤ w.events
  pub follows : (i : ℕ) → is_recorded w.recording i ≡ true → FollowsStay (slice_get ys i) w.recording
  pub none : w.recording.keep ≡ 0 → w.recording.launch ≡ None

-- notes and recording tell a stay whole
pub record Tells (i : ℕ) (y : Stay) (w : World) : Type 0 where
  pub launch : w.recording.launch ≡ Some (launch_in y)
  pub events : w.events ≤ most_count → w.recording.events ≡ y.events
  pub items : recorded_items i w ≡ y.items
