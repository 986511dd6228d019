-- The items that a run keeps, with `--items N FILE`: those of the space of load note N, as it was when the run stopped.
use Rattle.std.specs.Prelude.{ℕ, List, [], ◌∷◌, codes, Option, Some, None, option_map}
use Rattle.items_text.specs.Items.{ItemsValue}
use Rattle.items_text.specs.Lines.{text_of}
use Rattle.recorded_items.specs.Recorded.{recorded}
use Rattle.machine_world.specs.World.{World}
use Rattle.file_commands.specs.declared.command.KeptItems.{KeptItems as KeptArguments}
use Rattle.file_commands.specs.Arguments.{KeptItems, kept_value}
use Rattle.file_commands.specs.Ending.{Ending}
use Rattle.file_commands.specs.Outcome.{Request, store, Outcome}

-- the number of the load note, and 0 where no items are kept
abbrev pub keep_of : Option KeptItems → ℕ
keep_of None = 0
keep_of (Some k) = k.number

-- the text of the items, or the line `none` where there is no such load note
abbrev pub text_or_none : Option ItemsValue → List ℕ
text_or_none None = codes "none\n"
text_or_none (Some items) = text_of items

-- of the space that a world records
abbrev pub kept_text : World → List ℕ
kept_text w = text_or_none (recorded w.recording w.notes)

-- what is asked of the host behind a machine that stopped in this world: that the text becomes the file
abbrev pub kept_requests : Option KeptItems → World → List Request
kept_requests None w = []
kept_requests (Some k) w = store k.file (kept_text w) ∷ []

-- and then all else is written
abbrev pub kept_outcome : Option KeptItems → World → Ending → Outcome
kept_outcome kept w ending = record { requests = kept_requests kept w; ending = ending }

-- the arguments that the program read
abbrev pub kept_in : Option KeptArguments → Option KeptItems
kept_in kept = option_map kept_value kept
