-- What a call of `convert` does, over a host that tells its files.
use Rattle.std.specs.Prelude.{◌≡◌, ◌⊎◌, ◌++◌, ℕ, List, [], ◌∷◌, Some, None}
use Rattle.std.specs.FinMap.{get, insert}
use Rattle.host_io.specs.Host.{Told}
use Rattle.elf2flt_tool.specs.Fault.{fault}
use Rattle.elf2flt_tool.specs.Converted.{flat}
use Rattle.file_commands.specs.declared.status.Status.TheVariants.{Done, Refused, Memory}
use Rattle.file_commands.specs.Sizes.{sizes}
use Rattle.file_commands.specs.Texts.{convert_line}
use Rattle.file_commands.specs.Ending.{Ending}
use Rattle.file_commands.specs.Arguments.{convert, command_of}
use Rattle.file_commands.specs.Delivery.{TookAll, Delivers}
use Rattle.suite_top.specs.Call.{Call, outcome_of, OverFiles}
use Rattle.suite_top.specs.StatusLaws.{IsCalm}
use Rattle.command_laws.specs.OneFileLaws.{IsFile, IsRefused, elf_tail}

pub record IsConvert (c : Call) (t t_after : Told) (elf flt : List ℕ) (stack : ℕ) : Type 0 where
  pub files : OverFiles c t t_after
  pub command : command_of c.arguments ≡ Some (convert elf flt stack)

-- however it ends, the files are as before; or FLT is exactly the flat file of ELF, and the ending is that of the conversion
abbrev pub ConvertChangesOneFile : Type 0
ConvertChangesOneFile = (c : Call) (t t_after : Told) (elf flt : List ℕ) (stack : ℕ) → IsConvert c t t_after elf flt stack
    → (ending : Ending) × Delivers ending c.out c.out_after c.report c.report_after c.status
    × ((t_after.files ≡ t.files)
    ⊎ ((e : List ℕ) × (get t.files elf ≡ Some e) × (fault e ≡ None) × (t_after.files ≡ insert t.files flt (flat e stack)) × (ending ≡ (outcome_of c).ending)))

-- ELF has no fault, FLT is its flat file, no other file changed, and `out` took the line
pub record IsConverted (c : Call) (t t_after : Told) (elf flt : List ℕ) (stack : ℕ) : Type 0 where
  pub bytes : List ℕ
  pub file : IsFile t elf bytes
  pub accepted : fault bytes ≡ None
  pub files : t_after.files ≡ insert t.files flt (flat bytes stack)
  pub asked : t_after.asked ≡ t.asked ++ elf ∷ flt ∷ []
  pub out : TookAll c.out c.out_after (convert_line (sizes bytes stack))
  pub report : TookAll c.report c.report_after []

abbrev pub ConvertIsDone : Type 0
ConvertIsDone = (c : Call) (t t_after : Told) (elf flt : List ℕ) (stack : ℕ) → IsConvert c t t_after elf flt stack → c.status ≡ Done → IsConverted c t t_after elf flt stack

abbrev pub ConvertIsRefused : Type 0
ConvertIsRefused = (c : Call) (t t_after : Told) (elf flt : List ℕ) (stack : ℕ) → IsConvert c t t_after elf flt stack → c.status ≡ Refused → IsRefused c t t_after elf elf_tail

-- where ELF has no fault, and none is counted, it is converted, or the call was out of memory
abbrev pub ConvertCompletes : Type 0
ConvertCompletes = (c : Call) (t t_after : Told) (elf flt : List ℕ) (stack : ℕ) → IsConvert c t t_after elf flt stack
    → (e : List ℕ) → IsFile t elf e → fault e ≡ None → IsCalm c → (c.status ≡ Memory) ⊎ (c.status ≡ Done)
