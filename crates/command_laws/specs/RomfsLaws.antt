-- What a call of `romfs` does, over a host that tells its files.
use Rattle.std.specs.Prelude.{◌≡◌, ◌⊎◌, ◌++◌, ℕ, ◌+◌, ◌≤◌, List, [], ◌∷◌, map, filter, length, Some, Ok}
use Rattle.std.specs.FinMap.{get, insert}
use Rattle.host_io.specs.Host.{Files, Told}
use Rattle.romfs_image.specs.Nodes.{RomValue}
use Rattle.romfs_image.specs.Text.{most_bytes, rom_text}
use Rattle.rom_tree.specs.Nodes.{tree_nodes}
use Rattle.rom_tree.specs.Laws.{named_count}
use Rattle.manifest_text.specs.Values.{Manifest}
use Rattle.manifest_text.specs.Manifest.{tree_manifest_of}
use Rattle.run_setup.specs.Brought.{Brought, nothing_brought, all_brought}
use Rattle.file_commands.specs.declared.status.Status.TheVariants.{Done, Refused, Memory}
use Rattle.file_commands.specs.Texts.{refused_line}
use Rattle.file_commands.specs.Texts.Images.{image_line}
use Rattle.file_commands.specs.Ending.{done_ending, refused_ending}
use Rattle.file_commands.specs.Outcome.{load, store, name_of, Outcome}
use Rattle.file_commands.specs.HostCourse.{inputs_in}
use Rattle.file_commands.specs.Items.{files_limit, has_file}
use Rattle.file_commands.specs.Manifests.{manifest_limit}
use Rattle.file_commands.specs.Arguments.{romfs, command_of}
use Rattle.file_commands.specs.Delivery.{TookAll}
use Rattle.suite_top.specs.Call.{Call, outcome_of, OverFiles}
use Rattle.suite_top.specs.StatusLaws.{IsCalm}
use Rattle.command_laws.specs.RunLaws.{AreThere}

pub record IsRomfs (c : Call) (t t_after : Told) (manifest image : List ℕ) : Type 0 where
  pub files : OverFiles c t t_after
  pub command : command_of c.arguments ≡ Some (romfs manifest image)

-- all that the image needs is there and has no fault, and this is the tree; the image isn't too large
pub record Makes (t : Files) (name : List ℕ) : Type 0 where
  pub text : List ℕ
  pub found : get t name ≡ Some text
  pub fits : length text ≤ manifest_limit
  pub manifest : Manifest
  pub reads : tree_manifest_of text ≡ Ok manifest
  pub files : List (List ℕ)
  pub there : AreThere (inputs_in t) files_limit manifest.items files
  pub brought : Brought
  pub brings : all_brought manifest.items files nothing_brought ≡ Ok brought
  pub small : length (rom_text (tree_nodes brought.tree)) ≤ most_bytes

abbrev pub nodes_in : {t : Files} {name : List ℕ} → Makes t name → List RomValue
nodes_in o = tree_nodes o.brought.tree

-- the manifest is asked for, then the file of each line that has one, in order, and then the image is stored
abbrev pub made_outcome : {t : Files} {name : List ℕ} → (image : List ℕ) → Makes t name → Outcome
made_outcome {name = name} image o = record {
  requests = load name ∷ map (λ i. load i.name) (filter (λ i. has_file i.kind) o.manifest.items) ++ store image (rom_text (nodes_in o)) ∷ [];
  ending = done_ending (image_line (length (nodes_in o)) (length (rom_text (nodes_in o))));
}

-- IMG is the image of the manifest's tree, which has as many nodes as a folder names in the tree, but the root; no other file changed, and
-- `out` took the line
pub record IsMade (c : Call) (t t_after : Told) (manifest image : List ℕ) : Type 0 where
  pub makes : Makes t.files manifest
  pub whole : length (nodes_in makes) + 1 ≡ named_count makes.brought.tree
  pub files : t_after.files ≡ insert t.files image (rom_text (nodes_in makes))
  pub asked : t_after.asked ≡ t.asked ++ map name_of (made_outcome image makes).requests
  pub out : TookAll c.out c.out_after (image_line (length (nodes_in makes)) (length (rom_text (nodes_in makes))))
  pub report : TookAll c.report c.report_after []

abbrev pub RomfsIsDone : Type 0
RomfsIsDone = (c : Call) (t t_after : Told) (manifest image : List ℕ) → IsRomfs c t t_after manifest image → c.status ≡ Done → IsMade c t t_after manifest image

-- however it ends, the files are as before, or IMG is exactly the image and no other file changed
abbrev pub RomfsChangesOneFile : Type 0
RomfsChangesOneFile = (c : Call) (t t_after : Told) (manifest image : List ℕ) → IsRomfs c t t_after manifest image
    → (t_after.files ≡ t.files) ⊎ ((o : Makes t.files manifest) × (t_after.files ≡ insert t.files image (rom_text (nodes_in o))))

-- no file has changed, and the one line is that of the first refusal
pub record IsImageRefused (c : Call) (t t_after : Told) : Type 0 where
  pub tail : List ℕ
  pub first : (outcome_of c).ending ≡ refused_ending tail
  pub files : t_after.files ≡ t.files
  pub out : TookAll c.out c.out_after []
  pub report : TookAll c.report c.report_after (refused_line tail)

abbrev pub RomfsIsRefused : Type 0
RomfsIsRefused = (c : Call) (t t_after : Told) (manifest image : List ℕ) → IsRomfs c t t_after manifest image → c.status ≡ Refused → IsImageRefused c t t_after

-- where the image can be made, and no fault is counted, it is, or the call was out of memory
abbrev pub RomfsCompletes : Type 0
RomfsCompletes = (c : Call) (t t_after : Told) (manifest image : List ℕ) → IsRomfs c t t_after manifest image
    → Makes t.files manifest → IsCalm c → (c.status ≡ Memory) ⊎ (c.status ≡ Done)
