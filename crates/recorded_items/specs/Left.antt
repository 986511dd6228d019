-- What one call more has of what was brought, and what it leaves.
use Rattle.std.specs.Prelude.{ℕ, if◌then◌else◌, List, [], ◌∷◌}
use Rattle.call_log.specs.Notes.{CallEntry}
use Rattle.flat_loader.specs.Alone.{Item}
use Rattle.machine_world.specs.Event.{maps_file, plain_item}
use Rattle.recording_laws.specs.Items.{first_list, other_lists}

-- a call that maps a file has the first list
abbrev pub item_with : CallEntry → List (List ℕ) → Item
item_with e lists = if maps_file e then record { entry = e; brought = first_list lists } else plain_item e

-- and the others are left
abbrev pub left_by : CallEntry → List (List ℕ) → List (List ℕ)
left_by e lists = if maps_file e then other_lists lists else lists

-- the lists that are left behind some calls
unfoldable pub lists_left : List CallEntry → List (List ℕ) → List (List ℕ)
lists_left [] lists = lists
lists_left (e ∷ calls) lists = lists_left calls (left_by e lists)
