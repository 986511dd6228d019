-- What a replay says of the items that a run keeps.
use Rattle.std.specs.Prelude.{◌≡◌, ℕ, List, Option, Some, Ok, slice_get}
use Rattle.std.specs.List.{AllByRecursion}
use Rattle.page_runs.specs.declared.place.Kind.{Kind}
use Rattle.call_log.specs.Notes.{LoadEntry}
use Rattle.items_text.specs.Items.{ItemsValue, AreSpelled}
use Rattle.manifest_text.specs.Values.{Manifest}
use Rattle.machine_world.specs.World.{Program}
use Rattle.replay_check.specs.declared.verdict.Verdict.TheVariants.{Yes}
use Rattle.replay_check.specs.Replays.{OriginalFile, replayed}
use Rattle.recorded_items.specs.Recorded.{recorded}
use Rattle.replay_laws.specs.Files.{IsFileOf, HasFile}
use Rattle.replay_laws.specs.Laws.{load_of}
use Rattle.file_commands.specs.Outcome.{Inputs}
use Rattle.command_laws.specs.Booted.{Booted, last_world}
use Rattle.command_laws.specs.RunLaws.{Opens}

-- as recording and notes tell them in the world behind the turns
abbrev pub kept_items : {keep : ℕ} {kind : Kind} {m : Manifest} {loaded : List (List ℕ)} → Booted keep kind m loaded → Option ItemsValue
kept_items b = recorded (last_world b).recording (last_world b).notes

pub record AcceptsItems {keep : ℕ} {kind : Kind} {m : Manifest} {loaded : List (List ℕ)} (b : Booted keep kind m loaded) : Type 0 where
  -- the items have a text
  pub spelled : (items : ItemsValue) → kept_items b ≡ Some items → AreSpelled items
  -- each program is of a file of the item lines
  pub files : AllByRecursion (HasFile m.items loaded) b.brought.programs
  -- and over the file of the program that the load note names, a replay says yes to them
  pub accepted : (load : LoadEntry) (p : Program) (file : OriginalFile) (items : ItemsValue) → load_of keep (last_world b).notes ≡ Some load → slice_get b.brought.programs load.program ≡ Some p
      → IsFileOf file p.original → kept_items b ≡ Some items → replayed file items ≡ Ok Yes

abbrev pub RunsAcceptItems : Type 0
RunsAcceptItems = (inputs : Inputs) (name : List ℕ) (keep : ℕ) (kind : Kind) (o : Opens inputs name keep kind) → AcceptsItems o.booted
