-- The laws of the conversion, over definitions alone. A file is a list of bytes.
use Rattle.std.specs.Prelude.{◌≡◌, ◌≢◌, ℕ, ◌+◌, ◌-◌, ◌^◌, ◌<◌, ◌≤◌, ◌⊎◌, List, None}
use Rattle.byte_words.specs.Numbers.{IsBytes}
use Rattle.bflt_format.specs.Header.{flat_values}
use Rattle.bflt_format.specs.Fault.{flat_fault}
use Rattle.bflt_format.specs.Image.{flat_image}
use Rattle.flat_layout.specs.Layout.{layout}
use Rattle.linux_loader.specs.Laws.{IsPlaced, LoadsAs}
use Rattle.elf2flt_tool.specs.Fault.{fault}
use Rattle.elf2flt_tool.specs.Faults.{faults, first_refusal}
use Rattle.elf2flt_tool.specs.Image.{image}
use Rattle.elf2flt_tool.specs.Converted.{flat}
use Rattle.elf2flt_tool.specs.Same.{SaysSame, RecordsSame, Agrees, HasHighsApart}

-- the flat file of an accepted ELF file has, loaded at any base b, the image of the ELF file at b
abbrev pub ImageLaw : Type 0
ImageLaw = (e : List ℕ) (stack b : ℕ) → IsBytes e → fault e ≡ None → stack ≤ 1048576 → flat_image (flat_values (flat e stack)) b ≡ image e b

-- what is written has no fault
abbrev pub FlatLaw : Type 0
FlatLaw = (e : List ℕ) (stack : ℕ) → IsBytes e → fault e ≡ None → stack ≤ 1048576 → flat_fault (flat e stack) ≡ None

-- Linux takes it at the page k, for so many bytes of arguments, where the entry's number is below 2^24 - 64. Behind the header it
-- leaves the image of the ELF file, with zeros behind that, and the program starts at the ELF file's entry
abbrev pub LinuxLaw : Type 0
LinuxLaw =
    (e : List ℕ) (stack args k : ℕ) → IsBytes e → fault e ≡ None → stack ≤ 1048576 → (layout e).entry < 2 ^ 24 - 64 → IsPlaced (flat e stack) args k →
    LoadsAs (flat e stack) args k (image e (k + 64)) (k + 64 + (layout e).entry)

-- the first of all faults of a file is its first fault; it has none exactly where the list is empty
abbrev pub FirstFaultLaw : Type 0
FirstFaultLaw = (e : List ℕ) → first_refusal (faults e) ≡ fault e

-- two accepted files that agree on the entry, the laid-out sections and the kept relocations become the same flat file, where
-- one of them has no two sections with high parts at one place
abbrev pub NothingElseLaw : Type 0
NothingElseLaw = (e f : List ℕ) (stack : ℕ) → IsBytes e → IsBytes f → fault e ≡ None → fault f ≡ None → Agrees e f → HasHighsApart e ⊎ HasHighsApart f → flat e stack ≡ flat f stack

-- two accepted files that agree, and become other flat files: so what is said of high parts is needed
pub record DifferThoughAgreed : Type 0 where
  pub one : List ℕ
  pub other : List ℕ
  pub one_bytes : IsBytes one
  pub other_bytes : IsBytes other
  pub one_accepted : fault one ≡ None
  pub other_accepted : fault other ≡ None
  pub agree : Agrees one other
  pub differ : flat one 4096 ≢ flat other 4096

-- two that agree, of the relocations, on what those that record a word need become the same, whatever stands at one place
abbrev pub SameRecordersLaw : Type 0
SameRecordersLaw = (e f : List ℕ) (stack : ℕ) → IsBytes e → IsBytes f → fault e ≡ None → fault f ≡ None → RecordsSame e f → flat e stack ≡ flat f stack

-- and two that record words at the same numbers, by whatever relocations
abbrev pub SameWordsLaw : Type 0
SameWordsLaw = (e f : List ℕ) (stack : ℕ) → IsBytes e → IsBytes f → fault e ≡ None → fault f ≡ None → SaysSame e f → flat e stack ≡ flat f stack
