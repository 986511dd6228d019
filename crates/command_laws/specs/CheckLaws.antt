-- What a call of `check` does, over a host that tells its files.
use Rattle.std.specs.Prelude.{◌≡◌, ◌⊎◌, ◌++◌, ℕ, ◌<◌, ◌≤◌, Bool, true, false, List, Some, None, ◌∷◌, [], length}
use Rattle.std.specs.FinMap.{get}
use Rattle.host_io.specs.Host.{Told}
use Rattle.elf2flt_tool.specs.declared.fault.Fault.{Fault}
use Rattle.elf2flt_tool.specs.Fault.{fault}
use Rattle.elf2flt_tool.specs.Faults.{refusal_of}
use Rattle.fault_texts.specs.Lines.{fault_line}
use Rattle.file_commands.specs.declared.status.Status.TheVariants.{Done, Refused, Memory}
use Rattle.file_commands.specs.Sizes.{sizes}
use Rattle.file_commands.specs.Texts.{refusal_tail, check_line, too_long_tail, refused_line}
use Rattle.file_commands.specs.Outcome.{load}
use Rattle.file_commands.specs.OneFile.{file_limit}
use Rattle.file_commands.specs.Check.{faults_text}
use Rattle.file_commands.specs.Delivery.{TookAll}
use Rattle.file_commands.specs.Arguments.{check, default_stack, command_of}
use Rattle.suite_top.specs.Call.{Call, outcome_of, OverFiles}
use Rattle.suite_top.specs.StatusLaws.{IsCalm}
use Rattle.command_laws.specs.OneFileLaws.{IsFile, IsShown, elf_tail}

pub record IsCheck (c : Call) (t t_after : Told) (elf : List ℕ) (all : Bool) : Type 0 where
  pub files : OverFiles c t t_after
  pub command : command_of c.arguments ≡ Some (check elf all)

-- over any host, it requests its one file, and stores nothing
abbrev pub CheckAsksOneLoad : Type 0
CheckAsksOneLoad = (c : Call) (elf : List ℕ) (all : Bool) → command_of c.arguments ≡ Some (check elf all) → (outcome_of c).requests ≡ load elf ∷ []

-- ELF has no fault, and `out` took the line with its numbers
pub record IsCheckDone (c : Call) (t t_after : Told) (elf : List ℕ) : Type 0 where
  pub bytes : List ℕ
  pub file : IsFile t elf bytes
  pub accepted : fault bytes ≡ None
  pub shown : IsShown c t t_after elf (check_line (sizes bytes default_stack))

abbrev pub CheckIsDone : Type 0
CheckIsDone = (c : Call) (t t_after : Told) (elf : List ℕ) (all : Bool) → IsCheck c t t_after elf all → c.status ≡ Done → IsCheckDone c t t_after elf

-- what is listed: all faults, where they were asked for
abbrev pub listed_of : (all : Bool) → List ℕ → List ℕ
listed_of true e = faults_text e
listed_of false e = []

-- ELF is there, and is too long, and nothing is listed; or it has faults, and the tail is that of the first
abbrev pub HasFaults : Told → (elf : List ℕ) → (all : Bool) → (listed tail : List ℕ) → Type 0
HasFaults t elf all listed tail =
    (e : List ℕ) × (get t.files elf ≡ Some e)
    × (((file_limit < length e) × (listed ≡ []) × (tail ≡ too_long_tail))
    ⊎ ((length e ≤ file_limit) × (listed ≡ listed_of all e) × (elf_tail e ≡ Some tail)))

-- ELF was asked for, and no other file; all files are as before, `out` took what is listed, and the one line says why
pub record IsCheckRefused (c : Call) (t t_after : Told) (elf : List ℕ) (all : Bool) : Type 0 where
  pub listed : List ℕ
  pub tail : List ℕ
  pub cause : HasFaults t elf all listed tail
  pub files : t_after.files ≡ t.files
  pub asked : t_after.asked ≡ t.asked ++ elf ∷ []
  pub out : TookAll c.out c.out_after listed
  pub report : TookAll c.report c.report_after (refused_line tail)

abbrev pub CheckIsRefused : Type 0
CheckIsRefused = (c : Call) (t t_after : Told) (elf : List ℕ) (all : Bool) → IsCheck c t t_after elf all → c.status ≡ Refused → IsCheckRefused c t t_after elf all

-- the line of a fault begins with the tail of its refusal, so that of the first with the one that is told
abbrev pub LinesBeginWithTails : Type 0
LinesBeginWithTails = (e : List ℕ) (f : Fault) → (rest : List ℕ) × (fault_line e f ≡ refusal_tail (refusal_of f) ++ rest)

-- where ELF has no fault, and none is counted, the command is carried out, or the call was out of memory
abbrev pub CheckCompletes : Type 0
CheckCompletes = (c : Call) (t t_after : Told) (elf : List ℕ) (all : Bool) → IsCheck c t t_after elf all
    → (bytes : List ℕ) → IsFile t elf bytes → fault bytes ≡ None → IsCalm c → (c.status ≡ Memory) ⊎ (c.status ≡ Done)
