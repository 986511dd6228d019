-- The command `romfs MANIFEST IMG`: the tree that the item lines of MANIFEST make becomes the romfs image IMG.
use Rattle.std.specs.Prelude.{ℕ, nat_lt, if◌then◌else◌, List, length, None, Result, Ok, Err}
use Rattle.romfs_image.specs.Nodes.{RomValue}
use Rattle.romfs_image.specs.Text.{most_bytes, rom_text}
use Rattle.rom_tree.specs.Nodes.{tree_nodes}
use Rattle.manifest_text.specs.Values.{Item, Manifest}
use Rattle.manifest_text.specs.Manifest.{Fault, tree_manifest_of}
use Rattle.run_setup.specs.Brought.{Brought, FaultAt, nothing_brought, all_brought}
use Rattle.file_commands.specs.Texts.Refusals.{manifest_tail}
use Rattle.file_commands.specs.Texts.Images.{too_large_tail, image_line}
use Rattle.file_commands.specs.Ending.{refused_ending}
use Rattle.file_commands.specs.Outcome.{Outcome, Inputs}
use Rattle.file_commands.specs.Load.{at_once, with_load}
use Rattle.file_commands.specs.Items.{files_limit, with_items}
use Rattle.file_commands.specs.Manifests.{manifest_limit, fault_ending}
use Rattle.file_commands.specs.Convert.{stored_outcome}

-- the image of so many nodes, unless it has too many bytes
abbrev pub sized_outcome : (image : List ℕ) → (count : ℕ) → (text : List ℕ) → Outcome
sized_outcome image count text =
    if nat_lt most_bytes (length text) then at_once (refused_ending too_large_tail)
    else stored_outcome image text (image_line count (length text))

abbrev pub imaged_outcome : (image : List ℕ) → List RomValue → Outcome
imaged_outcome image nodes = sized_outcome image (length nodes) (rom_text nodes)

-- of the tree of what the lines bring in
abbrev pub treed_outcome : (image : List ℕ) → Result Brought FaultAt → Outcome
treed_outcome image (Err at) = at_once (fault_ending at)
treed_outcome image (Ok b) = imaged_outcome image (tree_nodes b.tree)

-- where the item lines' files are there
unfoldable pub filed_outcome : (image : List ℕ) → List Item → List (List ℕ) → Outcome
filed_outcome image items files = treed_outcome image (all_brought items files nothing_brought)

-- behind the manifest
abbrev pub lined_outcome : (image : List ℕ) → Result Manifest Fault → Inputs → Outcome
lined_outcome image (Err first) inputs = at_once (refused_ending (manifest_tail first.line first.fault))
lined_outcome image (Ok m) inputs = with_items files_limit m.items (filed_outcome image m.items) inputs

-- no start line and no quanta are asked for
unfoldable pub romfs_outcome : (name image : List ℕ) → Inputs → Outcome
romfs_outcome name image inputs = with_load manifest_limit None name (λ bytes. lined_outcome image (tree_manifest_of bytes)) inputs
