-- What a run with `--items N FILE` does: the items of the stay of load note N become the file FILE.
use Rattle.std.specs.Prelude.{◌≡◌, ◌⊎◌, ℕ, zero, suc, List, map, Option, Some, None, option_map, slice_get}
use Rattle.std.specs.FinMap.{insert}
use Rattle.host_io.specs.Host.{Told}
use Rattle.page_runs.specs.declared.place.Kind.{Kind}
use Rattle.region_watch.specs.declared.mode.Mode.TheVariants.{Halt}
use Rattle.items_text.specs.Items.{ItemsValue}
use Rattle.recorded_items.specs.Recorded.{told_item}
use Rattle.alone_laws.specs.Stays.{Stay}
use Rattle.file_commands.specs.Outcome.{Outcome, Inputs}
use Rattle.file_commands.specs.Arguments.{KeptItems, RunOptions, run, command_of}
use Rattle.suite_top.specs.Telling.{Report}
use Rattle.suite_top.specs.KeptItems.{text_or_none, kept_text}
use Rattle.suite_top.specs.Run.{run_outcome}
use Rattle.suite_top.specs.Call.{Call, OverFiles}
use Rattle.command_laws.specs.Booted.{booted_stays}
use Rattle.command_laws.specs.RunLaws.{Opens, IsStop}
use Rattle.command_laws.specs.Beside.{halting}

-- ---- a stay as items

-- its program as it was loaded, how many events were made in it, and its calls with what their mappings brought
abbrev pub items_of_stay : Stay → ItemsValue
items_of_stay y = record {
  stack = y.loading.original.stack;
  base = y.loading.block;
  pid = y.pid;
  events = y.events;
  args = y.loading.args;
  env = y.loading.env;
  list = map told_item y.items;
}

-- load notes are counted from 1, and stays from 0
abbrev pub stay_at : ℕ → List Stay → Option Stay
stay_at zero ys = None
stay_at (suc i) ys = slice_get ys i

-- of a run that opens: the text of the items of the stay of this load note along its turns, or the line `none` where there is none
abbrev pub stay_text : {inputs : Inputs} {name : List ℕ} {keep : ℕ} {kind : Kind} → Opens inputs name keep kind → List ℕ
stay_text {keep = keep} o = text_or_none (option_map items_of_stay (stay_at keep (booted_stays o.booted)))

-- what the world records behind the turns is that text
abbrev pub TextsAreOfStays : Type 0
TextsAreOfStays = (inputs : Inputs) (name : List ℕ) (keep : ℕ) (kind : Kind) (o : Opens inputs name keep kind) → kept_text (halting o).world ≡ stay_text o

-- ---- beside the same run without it

-- both reach their machine, or they are the same
abbrev pub EndsAlike : (without with_it : Outcome) → Type 0
EndsAlike without with_it = (IsStop without.ending.status × IsStop with_it.ending.status) ⊎ (with_it ≡ without)

abbrev pub KeepingEndsEarlyAlike : Type 0
KeepingEndsEarlyAlike = (name : List ℕ) (options : RunOptions) (kept : KeptItems) (inputs : Inputs)
    → EndsAlike (run_outcome name (Report (record options { mode = Halt; kept = None })) inputs) (run_outcome name (Report (record options { mode = Halt; kept = Some kept })) inputs)

-- ---- a call, over a host that tells its files

pub record IsKeeping (c : Call) (t t_after : Told) (manifest : List ℕ) (options : RunOptions) (kept : KeptItems) : Type 0 where
  pub files : OverFiles c t t_after
  pub command : command_of c.arguments ≡ Some (run manifest (record options { mode = Halt; kept = Some kept }))

-- where it ends as its machine stopped, FILE holds exactly that text, and no other file changed
abbrev pub ItemsAreStored : Type 0
ItemsAreStored = (c : Call) (t t_after : Told) (manifest : List ℕ) (options : RunOptions) (kept : KeptItems)
    → IsKeeping c t t_after manifest options kept → IsStop c.status
    → (o : Opens c.inputs manifest kept.number options.kind) × (t_after.files ≡ insert t.files kept.file (stay_text o))
