-- The first fault of what a run names: the manifest is looked at first, then the length of each file in the order of the lines, then what
-- each line brings in, and then each start line.
use Rattle.std.specs.Prelude.{◌≡◌, ◌⊎◌, ℕ, ◌-◌, ◌<◌, ◌≤◌, Bool, true, false, List, [], ◌∷◌, map, length, Some, Ok, Err}
use Rattle.page_runs.specs.declared.place.Kind.{Kind}
use Rattle.manifest_text.specs.Values.{Item, Manifest}
use Rattle.manifest_text.specs.Manifest.{Fault, manifest_of}
use Rattle.machine_world.specs.Boot.{BootFault, boot}
use Rattle.run_setup.specs.declared.fault.LineFault.TheVariants.{TooLong}
use Rattle.run_setup.specs.Brought.{Brought, FaultAt, nothing_brought, all_brought}
use Rattle.file_commands.specs.Texts.{too_long_tail}
use Rattle.file_commands.specs.Texts.Refusals.{manifest_tail, line_tail}
use Rattle.file_commands.specs.Outcome.{Inputs}
use Rattle.file_commands.specs.Load.{behind}
use Rattle.file_commands.specs.Items.{load_limit, files_limit, has_file}
use Rattle.file_commands.specs.Manifests.{manifest_limit}
use Rattle.suite_top.specs.Run.{start_line, opening, boot_fault}
use Rattle.command_laws.specs.RunLaws.{IsThere, behind_item, AreThere}

-- the text of a manifest is there, and isn't too long
pub record IsFound (inputs : Inputs) (name text : List ℕ) : Type 0 where
  pub found : inputs 0 name ≡ Some text
  pub fits : length text ≤ manifest_limit

-- and has no fault
pub record IsRead (inputs : Inputs) (name : List ℕ) (manifest : Manifest) : Type 0 where
  pub text : List ℕ
  pub is : IsFound inputs name text
  pub reads : manifest_of text ≡ Ok manifest

-- the file of a line is there, and is longer than the limit of its load
abbrev pub IsLong : Inputs → (left : ℕ) → Item → Bool → Type 0
IsLong inputs left item true = (file : List ℕ) × (inputs 0 item.name ≡ Some file) × (load_limit item.kind left < length file)
IsLong inputs left item false = ⊥

-- that of the line with this number, and of none before it
abbrev pub IsFirstLong : Inputs → (left : ℕ) → List Item → (line : ℕ) → Type 0
IsFirstLong inputs left [] line = ⊥
IsFirstLong inputs left (item ∷ items) line =
    ((line ≡ item.line) × IsLong inputs left item (has_file item.kind))
    ⊎ ((file : List ℕ) × IsThere inputs left item file (has_file item.kind) × IsFirstLong (behind_item (has_file item.kind) inputs) (left - length file) items line)

-- the files of all lines of a manifest that was read are there, and none is too long
pub record AreFound (inputs : Inputs) (name : List ℕ) (manifest : Manifest) (files : List (List ℕ)) : Type 0 where
  pub read : IsRead inputs name manifest
  pub there : AreThere (behind inputs) files_limit manifest.items files

-- the fault, with the tail that says so
pub data FirstFault (inputs : Inputs) (name : List ℕ) (keep : ℕ) (kind : Kind) (tail : List ℕ) : Type 0 where
  long_manifest : (text : List ℕ) → inputs 0 name ≡ Some text → manifest_limit < length text → tail ≡ too_long_tail → FirstFault inputs name keep kind tail
  no_manifest : (text : List ℕ) → IsFound inputs name text → (first : Fault) → manifest_of text ≡ Err first → tail ≡ manifest_tail first.line first.fault → FirstFault inputs name keep kind tail
  long_file : (manifest : Manifest) → IsRead inputs name manifest → (line : ℕ) → IsFirstLong (behind inputs) files_limit manifest.items line → tail ≡ line_tail line TooLong → FirstFault inputs name keep kind tail
  line_refused : (manifest : Manifest) (files : List (List ℕ)) → AreFound inputs name manifest files
      → (at : FaultAt) → all_brought manifest.items files nothing_brought ≡ Err at → tail ≡ line_tail at.line at.fault → FirstFault inputs name keep kind tail
  start_refused : (manifest : Manifest) (files : List (List ℕ)) → AreFound inputs name manifest files
      → (brought : Brought) → all_brought manifest.items files nothing_brought ≡ Ok brought
      → (first : BootFault) → boot (opening keep kind manifest brought) (map start_line manifest.starts) ≡ Err first
      → tail ≡ line_tail (boot_fault first).line (boot_fault first).fault → FirstFault inputs name keep kind tail
