-- What a call of `replay` does, over a host that tells its files.
use Rattle.std.specs.Prelude.{◌≡◌, ◌⊎◌, ◌++◌, ℕ, ◌≤◌, ◌<◌, List, [], ◌∷◌, length, Some, None, Ok, Err}
use Rattle.std.specs.FinMap.{get}
use Rattle.host_io.specs.Host.{Told}
use Rattle.bflt_format.specs.declared.fault.FlatFault.{FlatFault}
use Rattle.bflt_format.specs.Header.{flat_values}
use Rattle.bflt_format.specs.Fault.{flat_fault}
use Rattle.items_text.specs.Items.{ItemsValue, AreSpelled, AreHeld}
use Rattle.items_text.specs.Lines.{text_of}
use Rattle.items_text.specs.Faults.{IsFault}
use Rattle.replay_check.specs.declared.fault.ReplayFault.{ReplayFault}
use Rattle.replay_check.specs.declared.verdict.Verdict.{Verdict}
use Rattle.replay_check.specs.declared.verdict.Verdict.TheVariants.{Yes, No}
use Rattle.replay_check.specs.Replays.{OriginalFile, elf_file, flat_file, replayed, JudgesRun}
use Rattle.file_commands.specs.declared.status.Status.TheVariants.{Done, Refused, Memory, Refuted}
use Rattle.file_commands.specs.declared.command.Format.{Format}
use Rattle.file_commands.specs.declared.command.Format.TheVariants as format
use Rattle.file_commands.specs.Texts.{too_long_tail, refused_line}
use Rattle.file_commands.specs.Texts.Listing.{flat_tail}
use Rattle.file_commands.specs.Texts.Replays.{items_tail, replay_tail}
use Rattle.file_commands.specs.Outcome.{load}
use Rattle.file_commands.specs.OneFile.{file_limit}
use Rattle.file_commands.specs.Arguments.{replay, command_of}
use Rattle.file_commands.specs.Replay.{items_limit, verdict_ending}
use Rattle.file_commands.specs.Delivery.{TookAll}
use Rattle.suite_top.specs.Call.{Call, outcome_of, OverFiles}
use Rattle.suite_top.specs.StatusLaws.{IsCalm}

pub record IsReplay (c : Call) (t t_after : Told) (kind : Format) (file items : List ℕ) : Type 0 where
  pub files : OverFiles c t t_after
  pub command : command_of c.arguments ≡ Some (replay kind file items)

-- over any host, it requests the program's file, and then that of the items or nothing more; it stores nothing
abbrev pub ReplayAsksItsFiles : Type 0
ReplayAsksItsFiles = (c : Call) (kind : Format) (file items : List ℕ) → command_of c.arguments ≡ Some (replay kind file items)
    → ((outcome_of c).requests ≡ load file ∷ []) ⊎ ((outcome_of c).requests ≡ load file ∷ load items ∷ [])

-- ---- what is there

-- both files are, and neither is too long
pub record AreFiles (t : Told) (file items program text : List ℕ) : Type 0 where
  pub program_found : get t.files file ≡ Some program
  pub program_fits : length program ≤ file_limit
  pub items_found : get t.files items ≡ Some text
  pub items_fit : length text ≤ items_limit

-- the text is that of these items
pub record IsText (text : List ℕ) (i : ItemsValue) : Type 0 where
  pub held : AreHeld i
  pub spelled : AreSpelled i
  pub text_is : text ≡ text_of i

-- the file is this program; a flat file has no fault
abbrev pub IsProgram : Format → List ℕ → OriginalFile → Type 0
IsProgram format.Elf program original = original ≡ elf_file program
IsProgram format.Flat program original = (flat_fault program ≡ None) × (original ≡ flat_file (flat_values program))

-- a program and items, and the verdict on them
pub record IsJudged (t : Told) (kind : Format) (file items : List ℕ) (v : Verdict) : Type 0 where
  pub program : List ℕ
  pub text : List ℕ
  pub there : AreFiles t file items program text
  pub values : ItemsValue
  pub reads : IsText text values
  pub original : OriginalFile
  pub originates : IsProgram kind program original
  pub replays : replayed original values ≡ Ok v

-- ---- the answers

-- `out` took the line of the verdict, and it is yes exactly where the run of the program by itself isn't refuted; both files were asked
-- for, and all files are as before
pub record IsTold (c : Call) (t t_after : Told) (kind : Format) (file items : List ℕ) (v : Verdict) : Type 0 where
  pub judged : IsJudged t kind file items v
  pub alone : JudgesRun judged.original judged.values v
  pub files : t_after.files ≡ t.files
  pub asked : t_after.asked ≡ t.asked ++ file ∷ items ∷ []
  pub out : TookAll c.out c.out_after (verdict_ending judged.values v).out
  pub report : TookAll c.report c.report_after []

abbrev pub ReplayIsDone : Type 0
ReplayIsDone = (c : Call) (t t_after : Told) (kind : Format) (file items : List ℕ) → IsReplay c t t_after kind file items → c.status ≡ Done → IsTold c t t_after kind file items Yes

abbrev pub ReplayIsRefuted : Type 0
ReplayIsRefuted = (c : Call) (t t_after : Told) (kind : Format) (file items : List ℕ) → IsReplay c t t_after kind file items → c.status ≡ Refuted
    → (item : ℕ) × (events : ℕ) × IsTold c t t_after kind file items (No item events)

-- why there is no verdict, and the tail that says so
pub data Cause (t : Told) (kind : Format) (file items tail : List ℕ) : Type 0 where
  long_program : (program : List ℕ) → get t.files file ≡ Some program → file_limit < length program → tail ≡ too_long_tail → Cause t kind file items tail
  long_items : (program text : List ℕ) → get t.files file ≡ Some program → length program ≤ file_limit → get t.files items ≡ Some text → items_limit < length text → tail ≡ too_long_tail → Cause t kind file items tail
  no_items : (program text : List ℕ) → AreFiles t file items program text → (line : ℕ) → IsFault line text → tail ≡ items_tail line → Cause t kind file items tail
  no_flat_file : (program text : List ℕ) → AreFiles t file items program text → (i : ItemsValue) → IsText text i
      → kind ≡ format.Flat → (first : FlatFault) → flat_fault program ≡ Some first → tail ≡ flat_tail first → Cause t kind file items tail
  no_run : (program text : List ℕ) → AreFiles t file items program text → (i : ItemsValue) → IsText text i
      → (original : OriginalFile) → IsProgram kind program original → (why : ReplayFault) → replayed original i ≡ Err why → tail ≡ replay_tail why → Cause t kind file items tail

-- all files are as before, and the one line says why
pub record IsReplayRefused (c : Call) (t t_after : Told) (kind : Format) (file items : List ℕ) : Type 0 where
  pub tail : List ℕ
  pub cause : Cause t kind file items tail
  pub files : t_after.files ≡ t.files
  pub out : TookAll c.out c.out_after []
  pub report : TookAll c.report c.report_after (refused_line tail)

abbrev pub ReplayIsRefused : Type 0
ReplayIsRefused = (c : Call) (t t_after : Told) (kind : Format) (file items : List ℕ) → IsReplay c t t_after kind file items → c.status ≡ Refused → IsReplayRefused c t t_after kind file items

-- where there is a verdict, and no fault is counted, it is told, or the call was out of memory
abbrev pub ReplayCompletes : Type 0
ReplayCompletes = (c : Call) (t t_after : Told) (kind : Format) (file items : List ℕ) → IsReplay c t t_after kind file items
    → (v : Verdict) (j : IsJudged t kind file items v) → IsCalm c → (c.status ≡ Memory) ⊎ (c.status ≡ (verdict_ending j.values v).status)
