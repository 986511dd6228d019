-- What a call of `unromfs` does, over a host that tells its files.
use Rattle.std.specs.Prelude.{◌≡◌, ◌⊎◌, ℕ, List, [], ◌∷◌, Option, Some, None, Result, Ok, Err}
use Rattle.host_io.specs.Host.{Told}
use Rattle.romfs_image.specs.declared.fault.RomFault.{RomFault}
use Rattle.romfs_image.specs.Nodes.{RomValue}
use Rattle.romfs_image.specs.Reading.{rom_read}
use Rattle.file_commands.specs.declared.status.Status.TheVariants.{Done, Refused, Memory}
use Rattle.file_commands.specs.Texts.Images.{rom_tail, image_listing}
use Rattle.file_commands.specs.Outcome.{load}
use Rattle.file_commands.specs.Arguments.{unromfs, command_of}
use Rattle.suite_top.specs.Call.{Call, outcome_of, OverFiles}
use Rattle.suite_top.specs.StatusLaws.{IsCalm}
use Rattle.command_laws.specs.OneFileLaws.{IsFile, IsRefused, IsShown}

pub record IsUnromfs (c : Call) (t t_after : Told) (image : List ℕ) : Type 0 where
  pub files : OverFiles c t t_after
  pub command : command_of c.arguments ≡ Some (unromfs image)

-- over any host, it requests its one file, and stores nothing
abbrev pub UnromfsAsksOneLoad : Type 0
UnromfsAsksOneLoad = (c : Call) (image : List ℕ) → command_of c.arguments ≡ Some (unromfs image) → (outcome_of c).requests ≡ load image ∷ []

-- IMG has no fault, and `out` took the lines of its nodes
pub record IsUnromfsDone (c : Call) (t t_after : Told) (image : List ℕ) : Type 0 where
  pub bytes : List ℕ
  pub file : IsFile t image bytes
  pub nodes : List RomValue
  pub reads : rom_read bytes ≡ Ok nodes
  pub shown : IsShown c t t_after image (image_listing nodes)

abbrev pub UnromfsIsDone : Type 0
UnromfsIsDone = (c : Call) (t t_after : Told) (image : List ℕ) → IsUnromfs c t t_after image → c.status ≡ Done → IsUnromfsDone c t t_after image

-- the tail of the first fault
abbrev pub tail_in : Result (List RomValue) RomFault → Option (List ℕ)
tail_in (Ok nodes) = None
tail_in (Err first) = Some (rom_tail first)

abbrev pub image_tail : List ℕ → Option (List ℕ)
image_tail y = tail_in (rom_read y)

abbrev pub UnromfsIsRefused : Type 0
UnromfsIsRefused = (c : Call) (t t_after : Told) (image : List ℕ) → IsUnromfs c t t_after image → c.status ≡ Refused → IsRefused c t t_after image image_tail

-- where IMG has no fault, and none is counted, the command is carried out, or the call was out of memory
abbrev pub UnromfsCompletes : Type 0
UnromfsCompletes = (c : Call) (t t_after : Told) (image : List ℕ) → IsUnromfs c t t_after image
    → (bytes : List ℕ) (nodes : List RomValue) → IsFile t image bytes → rom_read bytes ≡ Ok nodes → IsCalm c → (c.status ≡ Memory) ⊎ (c.status ≡ Done)
