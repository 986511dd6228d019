-- What the laws of commands that load one file speak of.
use Rattle.std.specs.Prelude.{◌≡◌, ◌⊎◌, ◌++◌, ℕ, ◌≤◌, ◌<◌, List, [], ◌∷◌, length, Option, Some, option_map}
use Rattle.std.specs.FinMap.{get}
use Rattle.host_io.specs.Host.{Told}
use Rattle.elf2flt_tool.specs.Fault.{fault}
use Rattle.file_commands.specs.Texts.{refusal_tail, too_long_tail, refused_line}
use Rattle.file_commands.specs.OneFile.{file_limit}
use Rattle.file_commands.specs.Delivery.{TookAll}
use Rattle.suite_top.specs.Call.{Call}

-- the file of this name is there, and isn't too long
pub record IsFile (t : Told) (name bytes : List ℕ) : Type 0 where
  pub found : get t.files name ≡ Some bytes
  pub fits : length bytes ≤ file_limit

-- the tail of an ELF file's first fault
abbrev pub elf_tail : List ℕ → Option (List ℕ)
elf_tail e = option_map refusal_tail (fault e)

-- the file is there, and is too long; or it isn't, and `tail_of` gives the tail of its fault
abbrev pub HasTail : Told → List ℕ → (List ℕ → Option (List ℕ)) → List ℕ → Type 0
HasTail t name tail_of tail =
    (bytes : List ℕ) × (get t.files name ≡ Some bytes)
    × (((file_limit < length bytes) × (tail ≡ too_long_tail)) ⊎ ((length bytes ≤ file_limit) × (tail_of bytes ≡ Some tail)))

-- the file of this name was asked for, and no other; all files are as before, and the one line says why
pub record IsRefused (c : Call) (t t_after : Told) (name : List ℕ) (tail_of : List ℕ → Option (List ℕ)) : Type 0 where
  pub tail : List ℕ
  pub cause : HasTail t name tail_of tail
  pub files : t_after.files ≡ t.files
  pub asked : t_after.asked ≡ t.asked ++ name ∷ []
  pub out : TookAll c.out c.out_after []
  pub report : TookAll c.report c.report_after (refused_line tail)

-- the file of this name was asked for, and no other; all files are as before, and `out` took this text
pub record IsShown (c : Call) (t t_after : Told) (name text : List ℕ) : Type 0 where
  pub files : t_after.files ≡ t.files
  pub asked : t_after.asked ≡ t.asked ++ name ∷ []
  pub out : TookAll c.out c.out_after text
  pub report : TookAll c.report c.report_after []
