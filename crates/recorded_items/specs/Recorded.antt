-- The items of the space that a run records, as plain values: its program and the count of its events by the recording, its calls by
-- the notes, and what its mappings of files brought by the recording again. Notes stand newest first.
use Rattle.std.specs.Prelude.{ℕ, zero, suc, List, [], map, Option, Some, None, option_map}
use Rattle.call_log.specs.Notes.{CallEntry, Note}
use Rattle.flat_loader.specs.Alone.{Item}
use Rattle.items_text.specs.Items.{ItemValue, ItemsValue}
use Rattle.machine_world.specs.World.{Launch, Recording}
use Rattle.recording_laws.specs.Homes.{calls_at}
use Rattle.recording_laws.specs.Items.{with_lists}

-- load notes are counted from 1, and spaces from 0
abbrev pub kept_space : ℕ → Option ℕ
kept_space zero = None
kept_space (suc keep) = Some keep

abbrev pub calls_of : Option ℕ → List Note → List CallEntry
calls_of None notes = []
calls_of (Some space) notes = calls_at space notes

-- the same as an item of a text
abbrev pub told_item : Item → ItemValue
told_item i = record { entry = i.entry; brought = i.brought }

abbrev pub items_with : Launch → Recording → List Note → ItemsValue
items_with l r notes = record {
  stack = l.stack;
  base = l.base;
  pid = l.pid;
  events = r.events;
  args = l.args;
  env = l.env;
  list = map told_item (with_lists (calls_of (kept_space r.keep) notes) r.brought);
}

-- none where its program wasn't loaded
abbrev pub recorded : Recording → List Note → Option ItemsValue
recorded r notes = option_map (λ l. items_with l r notes) r.launch
