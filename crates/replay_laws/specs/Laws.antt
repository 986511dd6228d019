-- A replay says yes to the items that a run records, over the file of the program that the load note names.
use Rattle.std.specs.Prelude.{◌≡◌, ℕ, ◌≤◌, List, length, Option, Some, None, Ok, slice_get}
use Rattle.std.specs.List.{AllByRecursion}
use Rattle.call_log.specs.Notes.{LoadEntry, Note}
use Rattle.quantum_sched.specs.declared.Quantum.{Quantum}
use Rattle.vfork_exec.specs.Procs.{most_entries}
use Rattle.items_text.specs.Items.{ItemsValue}
use Rattle.manifest_text.specs.Laws.{IsItem}
use Rattle.manifest_text.specs.Values.{Item}
use Rattle.machine_world.specs.World.{Program, Rest, World}
use Rattle.machine_world.specs.Recordings.{most_count}
use Rattle.machine_world.specs.Turns.{turns}
use Rattle.machine_world.specs.Boot.{StartLine, boot}
use Rattle.alone_laws.specs.Stays.{Stay, AreRight, loads_of}
use Rattle.alone_laws.specs.Laws.{CanBoot}
use Rattle.run_setup.specs.Brought.{Brought, nothing_brought, all_brought}
use Rattle.replay_check.specs.declared.verdict.Verdict.TheVariants.{Yes}
use Rattle.replay_check.specs.Replays.{OriginalFile, replayed}
use Rattle.recorded_items.specs.Recorded.{kept_space, recorded}
use Rattle.recorded_items.specs.Spelled.{AreReadable}
use Rattle.recorded_items.specs.Laws.{items_of_stay, AreStrings}
use Rattle.replay_laws.specs.Files.{IsFileOf, HasFile}

-- ---- what a replay says

-- yes to the items of each stay of a run, over the file of its program
abbrev pub StaysAreAccepted : Type 0
StaysAreAccepted =
    (ys : List Stay) (w : World) (i : ℕ) (y : Stay) (file : OriginalFile) → AreRight ys w → AreReadable ys w → slice_get ys i ≡ Some y → IsFileOf file y.loading.original →
    replayed file (items_of_stay y) ≡ Ok Yes

abbrev pub load_in : List LoadEntry → Option ℕ → Option LoadEntry
load_in loads None = None
load_in loads (Some space) = slice_get loads space

-- the load note of this number, from 1
abbrev pub load_of : ℕ → List Note → Option LoadEntry
load_of keep notes = load_in (loads_of notes) (kept_space keep)

-- and to those that a run records, over the file of the program that its load note names
abbrev pub ItemsAreAccepted : Type 0
ItemsAreAccepted =
    (rest : Rest) (starts : List StartLine) (w : World) (quanta : List Quantum) (load : LoadEntry) (p : Program) (file : OriginalFile) (items : ItemsValue) →
    CanBoot rest → length starts ≤ most_entries → AreStrings starts → boot rest starts ≡ Ok w →
    let now : World = (turns quanta w).world in
    now.events ≤ most_count → load_of rest.keep now.notes ≡ Some load → slice_get rest.programs load.program ≡ Some p → IsFileOf file p.original →
    recorded now.recording now.notes ≡ Some items → replayed file items ≡ Ok Yes

-- ---- each program of a manifest has its file among those of the item lines

abbrev pub LinesHaveFiles : Type 0
LinesHaveFiles = (items : List Item) (files : List (List ℕ)) (b : Brought) → AllByRecursion IsItem items → all_brought items files nothing_brought ≡ Ok b → AllByRecursion (HasFile items files) b.programs
