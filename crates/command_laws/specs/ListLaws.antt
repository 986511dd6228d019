-- What a call of `list` does, over a host that tells its files.
use Rattle.std.specs.Prelude.{◌≡◌, ◌⊎◌, ℕ, List, Option, Some, None, option_map, ◌∷◌, []}
use Rattle.host_io.specs.Host.{Told}
use Rattle.bflt_format.specs.Header.{flat_values}
use Rattle.bflt_format.specs.Fault.{flat_fault}
use Rattle.file_commands.specs.declared.status.Status.TheVariants.{Done, Refused, Memory}
use Rattle.file_commands.specs.Texts.Listing.{listing, flat_tail}
use Rattle.file_commands.specs.Outcome.{load}
use Rattle.file_commands.specs.Arguments.{list, command_of}
use Rattle.suite_top.specs.Call.{Call, outcome_of, OverFiles}
use Rattle.suite_top.specs.StatusLaws.{IsCalm}
use Rattle.command_laws.specs.OneFileLaws.{IsFile, IsRefused, IsShown}

pub record IsList (c : Call) (t t_after : Told) (flt : List ℕ) : Type 0 where
  pub files : OverFiles c t t_after
  pub command : command_of c.arguments ≡ Some (list flt)

-- over any host, it requests its one file, and stores nothing
abbrev pub ListAsksOneLoad : Type 0
ListAsksOneLoad = (c : Call) (flt : List ℕ) → command_of c.arguments ≡ Some (list flt) → (outcome_of c).requests ≡ load flt ∷ []

-- FLT has no fault, and `out` took its listing
pub record IsListDone (c : Call) (t t_after : Told) (flt : List ℕ) : Type 0 where
  pub bytes : List ℕ
  pub file : IsFile t flt bytes
  pub accepted : flat_fault bytes ≡ None
  pub shown : IsShown c t t_after flt (listing (flat_values bytes))

abbrev pub ListIsDone : Type 0
ListIsDone = (c : Call) (t t_after : Told) (flt : List ℕ) → IsList c t t_after flt → c.status ≡ Done → IsListDone c t t_after flt

-- the tail of the first fault
abbrev pub list_tail : List ℕ → Option (List ℕ)
list_tail y = option_map flat_tail (flat_fault y)

abbrev pub ListIsRefused : Type 0
ListIsRefused = (c : Call) (t t_after : Told) (flt : List ℕ) → IsList c t t_after flt → c.status ≡ Refused → IsRefused c t t_after flt list_tail

-- where FLT has no fault, and none is counted, the command is carried out, or the call was out of memory
abbrev pub ListCompletes : Type 0
ListCompletes = (c : Call) (t t_after : Told) (flt : List ℕ) → IsList c t t_after flt
    → (bytes : List ℕ) → IsFile t flt bytes → flat_fault bytes ≡ None → IsCalm c → (c.status ≡ Memory) ⊎ (c.status ≡ Done)
