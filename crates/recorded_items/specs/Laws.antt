-- The items of the space that a run records are those of its stay, and have a text.
use Rattle.std.specs.Prelude.{◌≡◌, ℕ, ◌≤◌, List, map, length, Option, Some, None, Ok, option_map, slice_get}
use Rattle.std.specs.List.{AllByRecursion}
use Rattle.quantum_sched.specs.declared.Quantum.{Quantum}
use Rattle.vfork_exec.specs.Procs.{most_entries}
use Rattle.items_text.specs.Items.{ItemsValue, IsString, AreSpelled}
use Rattle.machine_world.specs.World.{Rest, World}
use Rattle.machine_world.specs.Recordings.{most_count}
use Rattle.machine_world.specs.Turns.{turns}
use Rattle.machine_world.specs.Boot.{StartLine, empty_world, boot}
use Rattle.alone_laws.specs.Stays.{Stay, stays_along, first_stays}
use Rattle.alone_laws.specs.Laws.{CanBoot}
use Rattle.recorded_items.specs.Recorded.{kept_space, told_item, recorded}

-- the items of a stay
abbrev pub items_of_stay : Stay → ItemsValue
items_of_stay y = record {
  stack = y.loading.original.stack;
  base = y.loading.block;
  pid = y.pid;
  events = y.events;
  args = y.loading.args;
  env = y.loading.env;
  list = map told_item y.items;
}

-- the stay of a space, if there is one
abbrev pub stay_in : List Stay → Option ℕ → Option Stay
stay_in ys None = None
stay_in ys (Some space) = slice_get ys space

-- the stay of the load note of this number, from 1; none where it is 0, or there are fewer
abbrev pub stay_of : ℕ → List Stay → Option Stay
stay_of keep ys = stay_in ys (kept_space keep)

-- a world that a run leads to, and the stays along it
abbrev pub stays_behind : Rest → List StartLine → World → List Quantum → List Stay
stays_behind rest starts w quanta = stays_along (first_stays (empty_world rest) starts) w quanta

-- as long as 64 bits count its events, all that is told by the recording and the notes is that stay
abbrev pub ItemsAreOfTheStay : Type 0
ItemsAreOfTheStay =
    (rest : Rest) (starts : List StartLine) (w : World) (quanta : List Quantum) → CanBoot rest → length starts ≤ most_entries → boot rest starts ≡ Ok w →
    let now : World = (turns quanta w).world in
    now.events ≤ most_count → recorded now.recording now.notes ≡ option_map items_of_stay (stay_of rest.keep (stays_behind rest starts w quanta))

-- start lines without a zero byte
abbrev pub AreStrings : List StartLine → Type 0
AreStrings starts = AllByRecursion (λ (s : StartLine). AllByRecursion IsString s.args) starts

abbrev pub ItemsAreSpelled : Type 0
ItemsAreSpelled =
    (rest : Rest) (starts : List StartLine) (w : World) (quanta : List Quantum) (items : ItemsValue) → CanBoot rest → length starts ≤ most_entries → AreStrings starts →
    boot rest starts ≡ Ok w →
    let now : World = (turns quanta w).world in
    recorded now.recording now.notes ≡ Some items → AreSpelled items
