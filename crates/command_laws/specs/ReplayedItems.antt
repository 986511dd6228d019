-- What a call of `replay` does over the file that a call of `run --items N FILE` stored.
use Rattle.std.specs.Prelude.{◌≡◌, ◌⊎◌, ℕ, List, [], length, Some, slice_get}
use Rattle.std.specs.FinMap.{get}
use Rattle.host_io.specs.Host.{Files, Told}
use Rattle.call_log.specs.Notes.{LoadEntry}
use Rattle.items_text.specs.Items.{ItemsValue}
use Rattle.machine_world.specs.World.{Program}
use Rattle.replay_check.specs.Replays.{OriginalFile}
use Rattle.replay_laws.specs.Files.{IsFileOf}
use Rattle.replay_laws.specs.Laws.{load_of}
use Rattle.file_commands.specs.declared.status.Status.TheVariants.{Done, Memory}
use Rattle.file_commands.specs.declared.command.Format.{Format}
use Rattle.file_commands.specs.Texts.Replays.{yes_line}
use Rattle.file_commands.specs.Arguments.{KeptItems, RunOptions}
use Rattle.file_commands.specs.Delivery.{TookAll}
use Rattle.suite_top.specs.Call.{Call}
use Rattle.suite_top.specs.HeldItems.{KeepsHeld}
use Rattle.suite_top.specs.StatusLaws.{IsCalm}
use Rattle.command_laws.specs.Booted.{last_world}
use Rattle.command_laws.specs.RunLaws.{Opens, IsStop}
use Rattle.command_laws.specs.ReplayLaws.{IsReplay, AreFiles, IsProgram}
use Rattle.command_laws.specs.ItemsLaws.{IsKeeping}
use Rattle.command_laws.specs.AcceptedItems.{kept_items}

-- a replay over a host that has FILE as the run left it, and a file of this program; neither is too long
pub record ReplaysStored (left : Files) (stored : List ℕ) (p : Program) (c : Call) (t t_after : Told) (kind : Format) (file : List ℕ) : Type 0 where
  pub replay : IsReplay c t t_after kind file stored
  pub program : List ℕ
  pub text : List ℕ
  pub there : AreFiles t file stored program text
  pub as_left : get left stored ≡ Some text
  pub original : OriginalFile
  pub originates : IsProgram kind program original
  pub of_program : IsFileOf original p.original

-- `out` took the line that says yes, with how many calls and events there were
pub record SaysYes (c : Call) (items : ItemsValue) : Type 0 where
  pub status : c.status ≡ Done
  pub out : TookAll c.out c.out_after (yes_line (length items.list) items.events)
  pub report : TookAll c.report c.report_after []

-- Where the run ended as its machine stopped, and N has a load note, each replay of FILE over a file of that note's program says yes to the
-- items that the run kept, if no fault is counted; or it is out of memory. Of the run both clauses of `suite` are known: its outcome, and
-- that the items which it keeps are held
abbrev pub StoredItemsReplay : Type 0
StoredItemsReplay = (c : Call) (t t_after : Told) (manifest : List ℕ) (options : RunOptions) (kept : KeptItems)
    → IsKeeping c t t_after manifest options kept → KeepsHeld c.arguments c.host.told c.status → IsStop c.status
    → (o : Opens c.inputs manifest kept.number options.kind)
    × ((load : LoadEntry) (p : Program) (items : ItemsValue) → load_of kept.number (last_world o.booted).notes ≡ Some load → slice_get o.booted.brought.programs load.program ≡ Some p
    → kept_items o.booted ≡ Some items
    → (r : Call) (u u_after : Told) (kind : Format) (file : List ℕ) → ReplaysStored t_after.files kept.file p r u u_after kind file
    → IsCalm r → (r.status ≡ Memory) ⊎ SaysYes r items)
